use Rattle.std.proofs.Common.{[], ◌∷◌, refl, ◌∙◌, ap, option_map}
use denote.Enum.Declared.{tag_of}
use Rattle.reading_table.specs.contracts.rule.Rule.{the_type}
use Rattle.reading_table.specs.declared.rows.annotations.TheConstants.{ANNOTATIONS}
use Rattle.reading_table.specs.declared.rows.choices.TheConstants.{CHOICES}
use Rattle.reading_table.specs.declared.rows.declarations.TheConstants.{DECLARATIONS}
use Rattle.reading_table.specs.declared.rows.levels.TheConstants.{LEVELS}
use Rattle.reading_table.specs.declared.rows.names.TheConstants.{NAMES}
use Rattle.reading_table.specs.declared.rows.nodes.TheConstants.{NODES}
use Rattle.reading_table.specs.declared.rows.primaries.TheConstants.{PRIMARIES}
use Rattle.reading_table.specs.declared.rows.proofs.TheConstants.{PROOFS}
use Rattle.reading_table.specs.declared.rows.statements.TheConstants.{STATEMENTS}
use Rattle.reading_table.specs.declared.rows.traits.TheConstants.{TRAITS}
use Rattle.reading_table.specs.declared.rows.units.TheConstants.{UNITS}
use Rattle.reading_table.specs.Rows.{entry_now}
use Rattle.reading_table.proofs.Families.{alike, told}
use Rattle.reading_table.proofs.rows.entry.Goals as goal

pub returns : goal.returns
returns c =
    ap (option_map entry_now) c.member_in.ensures
    ∙ told entry_now
    (c.entries.result ∷ c.entries-2.result ∷ c.entries-3.result ∷ c.entries-4.result ∷ c.entries-5.result ∷ c.entries-6.result ∷ c.entries-7.result ∷ c.entries-8.result ∷ c.entries-9.result ∷ c.entries-10.result ∷ c.entries-11.result ∷ [])
    (UNITS ∷ NAMES ∷ DECLARATIONS ∷ STATEMENTS ∷ CHOICES ∷ LEVELS ∷ PRIMARIES ∷ NODES ∷ ANNOTATIONS ∷ TRAITS ∷ PROOFS ∷ [])
    (tag_of the_type c.args.rule)
    (alike c.entries.ensures (alike c.entries-2.ensures (alike c.entries-3.ensures (alike c.entries-4.ensures (alike c.entries-5.ensures (alike c.entries-6.ensures (alike c.entries-7.ensures (alike c.entries-8.ensures (alike c.entries-9.ensures (alike c.entries-10.ensures (alike c.entries-11.ensures refl)))))))))))
