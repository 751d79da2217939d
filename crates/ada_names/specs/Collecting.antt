-- The entries of a document, in the order of its nodes: a fold over the tree by two tables, what a node says and what is round its kids.
use Rattle.std.specs.Prelude.{ℕ, ◌+◌, List, [], ◌∷◌, ◌++◌, nat_eq, Option, Some, None, if◌then◌else◌}
use Rattle.ada_tree.specs.declared.kind.Kind.{Kind}
use Rattle.ada_tree.specs.declared.kind.Kind.TheVariants as kind
use Rattle.ada_tree.specs.declared.node.Node.{Node, Node-F, fold-Node}
use Rattle.ada_names.specs.declared.entry.Entry.{Entry}
use Rattle.ada_names.specs.Places.{◌▸◌}
use Rattle.ada_names.specs.Entries.{entry}
use Rattle.ada_names.specs.Predefined.{predefined}

-- What is round a node: the innermost region and subprogram, the innermost declaration or clause by its kind and its node, and the region and the subprogram round the innermost subprogram.
pub record Around : Type 0 where
  pub region : List ℕ
  pub within : List ℕ
  pub kind : Kind
  pub until : List ℕ
  pub outer_region : List ℕ
  pub outer_within : List ℕ

-- a declaration, or a clause, at this node
abbrev pub declaration_at : Kind → List ℕ → Around → Around
declaration_at k path a = record a { kind = k; until = path }

-- a subprogram at this node: its own name belongs to the region outside
abbrev pub subprogram_at : Kind → List ℕ → Around → Around
subprogram_at k path a = record a { kind = k; region = path; within = path; outer_region = a.region; outer_within = a.within }

-- the names of a trait's variables belong to the list that follows theirs, the equations or the lemmas; its lemmas belong to the trait
abbrev pub region_in_trait : List ℕ → ℕ → List ℕ
region_in_trait path number = if nat_eq number 3 then path ▸ 4 else if nat_eq number 5 then path ▸ 6 else path

-- The mark of a raise clause is its first part.
abbrev pub in_raise : List ℕ → ℕ → Around → Around
in_raise path number a = if nat_eq number 0 then declaration_at kind.RaiseC path a else a

-- what stands before the dot of a mark of a `where` block
abbrev pub in_prefix : Kind → List ℕ → Around → Around
in_prefix kind.Global path a = declaration_at kind.Select path a
in_prefix kind.RaiseC path a = declaration_at kind.Select path a
in_prefix _ path a = a

-- The region of what stands in the kid of this number, where one begins at this node. `home` is the region of a package and its body.
abbrev pub region_in : Kind → List ℕ → List ℕ → ℕ → List ℕ
region_in kind.Pack home path number = home
region_in kind.Body home path number = home
region_in kind.Trait home path number = region_in_trait path number
region_in _ home path number = path

-- What is round the kid of this number. Context clauses belong to their unit, the clauses of a `where` block to the block.
abbrev pub inside : Kind → List ℕ → List ℕ → ℕ → Around → Around
inside kind.Unit region path number a = if nat_eq number 0 then record a { region = region } else a
inside kind.With region path number a = declaration_at kind.With path a
inside kind.Use region path number a = declaration_at kind.Use path a
inside kind.Pack region path number a = record a { region = region }
inside kind.Body region path number a = record a { region = region }
inside kind.SubDecl region path number a = subprogram_at kind.SubDecl path a
inside kind.SubBody region path number a = subprogram_at kind.SubBody path a
inside kind.Block region path number a = record a { region = region }
inside kind.Loop region path number a = record a { region = region }
inside kind.Rec region path number a = record a { region = region }
inside kind.Formal region path number a = declaration_at kind.Formal path a
inside kind.Obj region path number a = declaration_at kind.Obj path a
inside kind.Const region path number a = declaration_at kind.Const path a
inside kind.Num region path number a = declaration_at kind.Num path a
inside kind.Exc region path number a = declaration_at kind.Exc path a
inside kind.Comp region path number a = declaration_at kind.Comp path a
inside kind.Vars region path number a = declaration_at kind.Vars path a
inside kind.TypeDecl region path number a = declaration_at kind.TypeDecl path a
inside kind.Enum region path number a = record a { kind = kind.Enum }
inside kind.Trait region path number a = record a { region = region }
inside kind.Where region path number a = record a { region = region }
inside kind.Global region path number a = declaration_at kind.Global path a
inside kind.RaiseC region path number a = in_raise path number a
inside kind.Select region path number a = in_prefix a.kind path a
inside _ region path number a = a

abbrev pub down : Kind → List ℕ → List ℕ → ℕ → Around → Around
down k home path number a = inside k (region_in k home path number) path number a

-- What a node itself declares, binds or mentions: nothing; or a name, by the kind of its declaration or clause, its region, the node from whose end on it is visible, and the subprogram round it.
pub data Saying : Type 0 where
  silent : Saying
  says : (k : Kind) (region from within : List ℕ) → Saying

-- a name that is visible from the end of this node on, in the innermost region
abbrev pub here : Kind → List ℕ → Around → Saying
here k path a = says k a.region path a.within

-- A node of a mark, by what is round it: the mark of a `global` or a raise clause, or what stands before its dot. The kind RaiseC is that of the clause's own node.
abbrev pub mark_in : Kind → Kind → List ℕ → Around → Saying
mark_in kind.Global k path a = here kind.Global path a
mark_in kind.RaiseC k path a = here kind.Raise path a
mark_in kind.Select k path a = here k path a
mark_in _ k path a = silent

-- a name in a clause
abbrev pub clause_name : Kind → List ℕ → Around → Saying
clause_name kind.With path a = says kind.With a.region a.until a.within
clause_name kind.Use path a = says kind.Use a.region a.until a.within
clause_name k path a = mark_in k kind.Name path a

-- what has no region round it: an operator, a trait, the beginning of a term
abbrev pub alone : Kind → List ℕ → Saying
alone k path = says k [] path []

-- a name that is bound inside this node: a view's variable from the end of its type's name on, a quantified one from the end of the bounds
abbrev pub bound_from : Kind → List ℕ → List ℕ
bound_from kind.View path = path ▸ 0
bound_from kind.All path = path ▸ 1
bound_from kind.Exists path = path ▸ 1
bound_from _ path = path

abbrev pub bound : Kind → List ℕ → Saying
bound k path = says k path (bound_from k path) []

-- The names of an object, of a formal or of an enumeration are visible from the end of their declaration, a subprogram's from the end of its specification, a loop parameter's from the end of its range.
abbrev pub saying : Kind → List ℕ → Around → Saying
saying kind.Id path a = says a.kind a.region a.until a.within
saying kind.Name path a = clause_name a.kind path a
saying kind.Select path a = mark_in a.kind kind.Select path a
saying kind.Proc path a = says a.kind a.outer_region path a.outer_within
saying kind.Func path a = says a.kind a.outer_region path a.outer_within
saying kind.Pack path a = here kind.Pack path a
saying kind.Body path a = here kind.Body path a
saying kind.TypeDecl path a = here kind.TypeDecl path a
saying kind.Subtype path a = here kind.Subtype path a
saying kind.Private path a = here kind.Private path a
saying kind.For path a = here kind.For path a
saying kind.Reverse path a = here kind.Reverse path a
saying kind.Lemma path a = here kind.Lemma path a
saying kind.Where path a = here kind.Where path a
saying kind.Op path a = alone kind.Op path
saying kind.Trait path a = alone kind.Trait path
saying kind.In path a = alone kind.In path
saying kind.Out path a = alone kind.Out path
saying kind.RaiseC path a = alone kind.RaiseC path
saying kind.Invariant path a = alone kind.Invariant path
saying kind.Assert path a = alone kind.Assert path
saying kind.Eqn path a = alone kind.Eqn path
saying kind.Old path a = alone kind.Old path
saying kind.View path a = bound kind.View path
saying kind.All path a = bound kind.All path
saying kind.Exists path a = bound kind.Exists path
saying _ path a = silent

-- its entry, after those that stand before it
abbrev pub said : List ℕ → List ℕ → List Entry → Saying → Option Entry
said text path es silent = None
said text path es (says k region from within) = Some (entry es k text path region from within)

abbrev pub own : Kind → List ℕ → List ℕ → Around → List Entry → Option Entry
own k text path a es = said text path es (saying k path a)

-- the region of a package and its body: the package's node, where the body stands after it
abbrev pub home_of : List ℕ → Option Entry → List ℕ
home_of path (Some e) = e.origin
home_of path None = path

abbrev pub with_own : List Entry → Option Entry → List Entry
with_own es (Some e) = es ++ e ∷ []
with_own es None = es

-- from a path, what is round it and the entries before it: those with its own
abbrev pub Within : Type 0
Within = List ℕ → Around → List Entry → List Entry

abbrev pub of_kids : List Within → Kind → List ℕ → List ℕ → ℕ → Around → List Entry → List Entry
of_kids [] k home path number a es = es
of_kids (f ∷ fs) k home path number a es = of_kids fs k home path (number + 1) a (f (path ▸ number) (down k home path number a) es)

abbrev pub of_layer : Node-F Within → Within
of_layer layer path a es =
    let mine : Option Entry = own layer.kind layer.text path a es in
    of_kids layer.kids layer.kind (home_of path mine) path 0 a (with_own es mine)

abbrev pub entries_in : Node → Within
entries_in = fold-Node Within of_layer

abbrev pub outermost : Around
outermost = record { region = []; within = []; kind = kind.Doc; until = []; outer_region = []; outer_within = [] }

-- the predefined names, and then what the document says
abbrev pub entries_of : Node → List Entry
entries_of doc = entries_in doc [] outermost predefined
