-- What the values of the code stand for.
use Rattle.std.specs.Prelude.{Option}
use Rattle.std.specs.Option.{option_map}
use Rattle.term_core.specs.declared.term.Term.{Term}
use Rattle.linear_facts.specs.declared.facts.Fact.{Fact}
use Rattle.linear_facts.specs.declared.facts.Fact.TheVariants as fact
use Rattle.linear_facts.specs.declared.shapes.Shape.{Shape}
use Rattle.linear_facts.specs.declared.shapes.Shape.TheVariants as shape
use Rattle.linear_facts.specs.declared.lanes.Part.{Part}
use Rattle.linear_facts.specs.declared.lanes.Part.TheVariants as part
use Rattle.linear_facts.specs.Facts as facts
use Rattle.linear_facts.specs.Forms as forms

abbrev pub shape_behind : Shape → forms.Shape Term
shape_behind (shape.Literal n) = forms.literal n
shape_behind (shape.Sum a b) = forms.sum a.now b.now
shape_behind (shape.Difference a b) = forms.difference a.now b.now
shape_behind (shape.Opposite a) = forms.opposite a.now
shape_behind (shape.Multiple n a) = forms.multiple n a.now
shape_behind shape.Atom = forms.whole

abbrev pub fact_behind : Fact → facts.Fact
fact_behind (fact.AtMost a b) = facts.at_most a.now b.now
fact_behind (fact.Below a b) = facts.below a.now b.now
fact_behind (fact.Equal a b) = facts.equal_to a.now b.now

abbrev pub found : Option Fact → Option facts.Fact
found = option_map fact_behind

abbrev pub part_behind : Part → forms.Part
part_behind (part.Atom t) = forms.atom t.now
part_behind part.Constant = forms.constant
