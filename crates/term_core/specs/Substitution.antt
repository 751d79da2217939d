-- Free names and substitution.
use Rattle.std.specs.Prelude.{ℕ, List, [], ◌∷◌, bytes_eq, if◌then◌else◌}
use Rattle.term_core.specs.declared.term.Term.{Term}
use Rattle.term_core.specs.declared.term.Term.TheOpen.{Term-F}
use Rattle.term_core.specs.declared.term.Term.TheFolds.{fold-Term}
use Rattle.term_core.specs.declared.replacing.Entry.{Entry}
use Rattle.term_core.specs.Terms.{int, truth, var, op, Quantifier, for_all, exists, quantify}
use Rattle.term_core.specs.Names.{union, union_all, without, fresh}

abbrev pub free_step : Term-F (List (List ℕ)) → List (List ℕ)
free_step (Term-F.Var x) = x ∷ []
free_step (Term-F.Op o fs) = union_all fs
free_step (Term-F.All x low high body) = union low (union high (without x body))
free_step (Term-F.Some x low high body) = union low (union high (without x body))
free_step _ = []

-- the free names, each once
unfoldable pub free : Term → List (List ℕ)
free = fold-Term (List (List ℕ)) free_step

-- a term for each name
abbrev pub Sub : Type 0
Sub = List ℕ → Term

abbrev pub extend : Sub → List ℕ → Term → Sub
extend s x t = λ y. if bytes_eq y x then t else s y

abbrev pub frees : Sub → List (List ℕ) → List (List (List ℕ))
frees s [] = []
frees s (y ∷ ys) = free (s y) ∷ frees s ys

-- the name of a quantifier over x in the result, the other free names of its body being ys
abbrev pub new_name : Sub → List ℕ → List (List ℕ) → List ℕ
new_name s x ys = fresh (union_all (frees s ys)) x

-- a term's free names, and what it becomes
pub record Part : Type 0 where
  pub names : List (List ℕ)
  pub put : Sub → Term

abbrev pub names_of : List Part → List (List (List ℕ))
names_of [] = []
names_of (p ∷ ps) = p.names ∷ names_of ps

abbrev pub puts : Sub → List Part → List Term
puts s [] = []
puts s (p ∷ ps) = p.put s ∷ puts s ps

-- what becomes of a quantifier: its name is chosen, and the body has it in the place of the old one
abbrev pub quantified : Quantifier → List ℕ → Part → Part → Part → Part
quantified q x l h b = record {
  names = union l.names (union h.names (without x b.names));
  put = λ s. let y = new_name s x (without x b.names) in quantify q y (l.put s) (h.put s) (b.put (extend s x (var y)));
}

abbrev pub put_step : Term-F Part → Part
put_step (Term-F.Int n) = record { names = []; put = λ s. int n }
put_step (Term-F.Truth b) = record { names = []; put = λ s. truth b }
put_step (Term-F.Var x) = record { names = x ∷ []; put = λ s. s x }
put_step (Term-F.Op o ps) = record { names = union_all (names_of ps); put = λ s. op o (puts s ps) }
put_step (Term-F.All x l h b) = quantified for_all x l h b
put_step (Term-F.Some x l h b) = quantified exists x l h b

unfoldable pub part_of : Term → Part
part_of = fold-Term Part put_step

-- every free name replaced at once, and nothing captured
abbrev pub put : Term → Sub → Term
put t s = (part_of t).put s

-- the same term, its bound names as a substitution's result has them
abbrev pub normal : Term → Term
normal t = put t var

abbrev pub subst_of : Term → List ℕ → Term → Term
subst_of t x by = put t (extend var x (normal by))

-- ---- entries, of which the last one of a name counts

abbrev pub then_entries : Sub → List Entry → Sub
then_entries s [] = s
then_entries s (e ∷ es) = then_entries (extend s e.name e.by) es

abbrev pub sub_of : List Entry → Sub
sub_of es = then_entries var es

-- the name becomes a variable of another name
abbrev pub renamed : List ℕ → List ℕ → Entry
renamed x y = record { name = x; by = var y }

abbrev pub normal_entries : List Entry → List Entry
normal_entries [] = []
normal_entries (e ∷ es) = record { name = e.name; by = normal e.by } ∷ normal_entries es

-- all entries put in at once
abbrev pub put_all : Term → List Entry → Term
put_all t es = put t (sub_of (normal_entries es))
