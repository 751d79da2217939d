-- What is computed of a line is what the table says.
use Rattle.std.proofs.Common.{◌≡◌, ◌↔◌, ℕ, suc, ◌^◌, ◌<◌, ◌≤◌, List, [], ◌∷◌, length, map, Bool, true, false, ◌&&◌, cond, nat_lt, nat_le, Option, Some, None, option_map, option_and_then, refl, sym, ap, ◌∙◌, subst, arith}
use Rattle.std.proofs.lemmas.Bool.{and_parts, ltb-true, lt-ltb, leb-true, le-leb}
use Rattle.std.proofs.lemmas.List.{length-map}
use Rattle.std.specs.Cmp.Lexicographic.{pointwise, same_text}
use Rattle.std.specs.List.{AllByRecursion}
use Rattle.std.specs.Option.{option_or, option_zip}
use Rattle.std.specs.Str.{bytes_eq}
use Rattle.serde_json.specs.Data.{unsigned, negative, float, Data, null, boolean, number, string, array, object, Items, no_items, item, Members, no_members, member}
use Rattle.serde_json.specs.Find.{get, as_str, as_array}
use Rattle.serde_json.specs.View.{items_of}
use Rattle.edit_script.specs.declared.command.Edit.{Edit}
use Rattle.edit_script.specs.declared.command.Query.{Query}
use Rattle.edit_script.specs.declared.command.Query.TheVariants as query
use Rattle.edit_script.specs.declared.command.Command.{Command}
use Rattle.edit_script.specs.declared.command.Command.TheVariants as command
use Rattle.edit_script.specs.declared.form.TheConstants.{AT, EDITS, FILE, KEY, NODE, OP, TEXT, REPLACE, INSERT, DELETE, BATCH, REPORT, STATUS, SHOW, PRINT, SAVE}
use Rattle.edit_script.specs.Commands.{replace, insert, delete, batch}
use Rattle.edit_script.specs.Values.{listed, each_of, whole_number, steps_of, path_of, path_at, number_at, list_at}
use Rattle.edit_script.specs.Table.{names_of, is_word, is_line, placed, simple_edit_of, members_of, batch_of, show_of, query_of, command_of}
use Rattle.edit_script.specs.Lines.{named, line, whole, steps, IsPath, IsSimple, replaces, inserts, deletes, AreSimple, IsCommand, simple, batches, reports, statuses, shows, prints, saves}
use Rattle.edit_script.proofs.Lists.{listed-items_of}
use Rattle.edit_script.proofs.Digits.{fits}

-- ---- numbers and paths

whole_back : (n : ℕ) → n < 2 ^ 32 → whole_number (whole n) ≡ Some n
whole_back n small = rw (lt-ltb n (2 ^ 32) small)

each_back : (path : List ℕ) → AllByRecursion (λ n. n < 2 ^ 32) path → each_of whole_number (map whole path) ≡ Some path
each_back [] fits = refl
each_back (n ∷ path) fits = rw (lt-ltb n (2 ^ 32) fits.0, each_back path fits.1)

path_back : (path : List ℕ) → IsPath path → path_of (steps path) ≡ Some path
unfolding steps_of
path_back path is = rw (listed-items_of (map whole path), length-map, le-leb (length path) 256 is.short) (each_back path is.fits)

-- the line of each simple form
replaced : (path text : List ℕ) → IsPath path → simple_edit_of (line "replace" (named "at" (steps path) ∷ named "text" (string text) ∷ [])) ≡ Some (replace path text)
unfolding is_line simple_edit_of
replaced path text is = rw (path_back path is)

inserted : (path text : List ℕ) → IsPath path → simple_edit_of (line "insert" (named "at" (steps path) ∷ named "text" (string text) ∷ [])) ≡ Some (insert path text)
unfolding is_line simple_edit_of
inserted path text is = rw (path_back path is)

deleted : (path : List ℕ) → IsPath path → simple_edit_of (line "delete" (named "at" (steps path) ∷ [])) ≡ Some (delete path)
unfolding is_line simple_edit_of
deleted path is = rw (path_back path is)

simple_back : (d : Data) (edit : Edit) → IsSimple d edit → simple_edit_of d ≡ Some edit
simple_back d edit (replaces path text is at e) = rw (at, e) (replaced path text is)
simple_back d edit (inserts path text is at e) = rw (at, e) (inserted path text is)
simple_back d edit (deletes path is at e) = rw (at, e) (deleted path is)

edits_back : (ds : List Data) (edits : List Edit) → AreSimple ds edits → (each_of simple_edit_of ds ≡ Some edits) × (length ds ≡ length edits)
edits_back [] [] all = (refl, refl)
edits_back [] (edit ∷ edits) all = absurd all
edits_back (d ∷ ds) [] all = absurd all
edits_back (d ∷ ds) (edit ∷ edits) all =
    let rest = edits_back ds edits all.1 in
    (rw (simple_back d edit all.0, rest.0), ap suc rest.1)

members_back : (ds : List Data) (edits : List Edit) → AreSimple ds edits → 1 ≤ length edits → length edits ≤ 1000 → members_of ds ≡ Some edits
unfolding members_of
members_back ds edits all some few =
    let back = edits_back ds edits all in
    rw (back.1, lt-ltb 0 (length edits) some, le-leb (length edits) 1000 few) back.0

batch_back : (ds : List Data) (edits : List Edit) → members_of ds ≡ Some edits → command_of (line "batch" (named "edits" (array (items_of ds)) ∷ [])) ≡ Some (command.Edit (batch edits))
unfolding is_line simple_edit_of batch_of query_of command_of
batch_back ds edits is = rw (listed-items_of ds, is)

simple_command : (d : Data) (edit : Edit) → simple_edit_of d ≡ Some edit → command_of d ≡ Some (command.Edit edit)
unfolding command_of
simple_command d edit is = rw is

report_back : command_of (line "report" []) ≡ Some (command.Query query.Report)
unfolding is_line simple_edit_of batch_of query_of command_of
report_back = refl

status_back : command_of (line "status" []) ≡ Some (command.Query query.Status)
unfolding is_line simple_edit_of batch_of query_of command_of
status_back = refl

save_back : command_of (line "save" []) ≡ Some (command.Query query.Save)
unfolding is_line simple_edit_of batch_of query_of command_of
save_back = refl

show_back : (key : List ℕ) (node : ℕ) → node < 2 ^ 32 → command_of (line "show" (named "key" (string key) ∷ named "node" (whole node) ∷ [])) ≡ Some (command.Query (query.Show key node))
unfolding is_line simple_edit_of batch_of query_of command_of
show_back key node small = rw (lt-ltb node (2 ^ 32) small)

print_back : (file : ℕ) → file < 2 ^ 32 → command_of (line "print" (named "file" (whole file) ∷ [])) ≡ Some (command.Query (query.Print file))
unfolding is_line simple_edit_of batch_of query_of command_of
print_back file small = rw (lt-ltb file (2 ^ 32) small)

pub row_is_computed : (d : Data) (c : Command) → IsCommand d c → command_of d ≡ Some c
row_is_computed d c (simple edit is e) = rw e (simple_command d edit (simple_back d edit is))
row_is_computed d c (batches ds edits all some few at e) = rw (at, e) (batch_back ds edits (members_back ds edits all some few))
row_is_computed d c (reports at e) = rw (at, e) report_back
row_is_computed d c (statuses at e) = rw (at, e) status_back
row_is_computed d c (shows key node small at e) = rw (at, e) (show_back key node small)
row_is_computed d c (prints file small at e) = rw (at, e) (print_back file small)
row_is_computed d c (saves at e) = rw (at, e) save_back

-- ---- what a line of a form is

same_names : (xs ys : List (List ℕ)) → pointwise bytes_eq xs ys ≡ true → xs ≡ ys
same_names [] [] e = refl
same_names [] (y ∷ ys) e = absurd (cc)
same_names (x ∷ xs) [] e = absurd (cc)
same_names (x ∷ xs) (y ∷ ys) e =
    let both = and_parts (bytes_eq x y) (pointwise bytes_eq xs ys) e in
    let first : x ≡ y = same_text x y (sym both.0) in
    let rest = same_names xs ys both.1 in
    cc

word_is : (found : Option Data) (word : List ℕ) → is_word found word ≡ true → found ≡ Some (string word)
word_is None word e = absurd (cc)
word_is (Some null) word e = absurd (cc)
word_is (Some (boolean b)) word e = absurd (cc)
word_is (Some (number n)) word e = absurd (cc)
word_is (Some (string s)) word e = ap (λ t. Some (string t)) (same_text s word (sym e))
word_is (Some (array ds)) word e = absurd (cc)
word_is (Some (object ms)) word e = absurd (cc)

-- an object whose members have these names, and whose "op" is this word
record Formed (word : List ℕ) (names : List (List ℕ)) (d : Data) : Type 0 where
  members : Members
  is_object : d ≡ object members
  named_so : names_of members ≡ names
  op : get OP.now d ≡ Some (string word)

formed : (word : List ℕ) (names : List (List ℕ)) (d : Data) → is_line word names d ≡ true → Formed word names d
unfolding is_line
formed word names null e = absurd (cc)
formed word names (boolean b) e = absurd (cc)
formed word names (number n) e = absurd (cc)
formed word names (string s) e = absurd (cc)
formed word names (array ds) e = absurd (cc)
formed word names (object ms) e =
    let both = and_parts (pointwise bytes_eq (names_of ms) names) (is_word (get OP.now (object ms)) word) e in
    record { members = ms; is_object = refl; named_so = same_names (names_of ms) names both.0; op = word_is (get OP.now (object ms)) word both.1 }

-- the first member, and the others
record First (name : List ℕ) (names : List (List ℕ)) (ms : Members) : Type 0 where
  data_there : Data
  rest : Members
  is : ms ≡ member name data_there rest
  named_so : names_of rest ≡ names

first : (name : List ℕ) (names : List (List ℕ)) (ms : Members) → names_of ms ≡ name ∷ names → First name names ms
first name names no_members e = absurd (cc)
first name names (member k d ms) e =
    let same : k ≡ name = cc in
    let others : names_of ms ≡ names = cc in
    record { data_there = d; rest = ms; is = ap (λ n. member n d ms) same; named_so = others }

none : (ms : Members) → names_of ms ≡ [] → ms ≡ no_members
none no_members e = refl
none (member k d ms) e = absurd (cc)

-- ---- what the members give

whole_is : (d : Data) (n : ℕ) → whole_number d ≡ Some n → (d ≡ whole n) × (n < 2 ^ 32)
whole_is null n e = absurd (cc)
whole_is (boolean b) n e = absurd (cc)
whole_is (number (unsigned m)) n e = let f = fits m n e in (ap whole f.0, f.1)
whole_is (number (negative z)) n e = absurd (cc)
whole_is (number (float x)) n e = absurd (cc)
whole_is (string s) n e = absurd (cc)
whole_is (array ds) n e = absurd (cc)
whole_is (object ms) n e = absurd (cc)

text_is : (d : Data) (text : List ℕ) → as_str d ≡ Some text → d ≡ string text
text_is null text e = absurd (cc)
text_is (boolean b) text e = absurd (cc)
text_is (number n) text e = absurd (cc)
text_is (string s) text e = let same : s ≡ text = cc in ap string same
text_is (array ds) text e = absurd (cc)
text_is (object ms) text e = absurd (cc)

-- what each gives, and the first of them
record Cut {A B : Type 0} (f : A → Option B) (x : A) (xs : List A) (ys : List B) : Type 0 where
  y : B
  rest : List B
  one : f x ≡ Some y
  others : each_of f xs ≡ Some rest
  is : ys ≡ y ∷ rest

cut : {A B : Type 0} (f : A → Option B) (x : A) (xs : List A) (ys : List B) → each_of f (x ∷ xs) ≡ Some ys → Cut f x xs ys
cut {A = A} {B = B} f x xs ys e = by (f x) (each_of f xs) refl refl e
  where
    by : (o : Option B) (p : Option (List B)) → f x ≡ o → each_of f xs ≡ p → option_and_then (λ y. option_map (λ ys. y ∷ ys) p) o ≡ Some ys → Cut f x xs ys
    by None p is rest e = absurd (cc)
    by (Some y) None is rest e = absurd (cc)
    by (Some y) (Some zs) is rest e = let same : ys ≡ y ∷ zs = cc in record { y = y; rest = zs; one = is; others = rest; is = same }

record Wholes (ds : List Data) (path : List ℕ) : Type 0 where
  are : ds ≡ map whole path
  fit : AllByRecursion (λ n. n < 2 ^ 32) path

same_cons : (d c : Data) (ds cs : List Data) → d ≡ c → ds ≡ cs → d ∷ ds ≡ c ∷ cs
same_cons d c ds cs first rest = cc

wholes : (ds : List Data) (path : List ℕ) → each_of whole_number ds ≡ Some path → Wholes ds path
wholes [] path e = let none : path ≡ [] = cc in rw none record { are = refl; fit = tt }
wholes (d ∷ ds) path e =
    let c = cut whole_number d ds path e in
    let rest = wholes ds c.rest c.others in
    let first = whole_is d c.y c.one in
    rw c.is record { are = same_cons _ _ _ _ first.0 rest.are; fit = (first.1, rest.fit) }

items_of-listed : (ds : Items) → items_of (listed ds) ≡ ds
items_of-listed no_items = refl
items_of-listed (item d ds) = ap (item d) (items_of-listed ds)

record Path (d : Data) (path : List ℕ) : Type 0 where
  is : d ≡ steps path
  good : IsPath path

steps_are : (ds : Items) (path : List ℕ) → steps_of (listed ds) ≡ Some path → Path (array ds) path
unfolding steps_of
steps_are ds path e = by (nat_le (length (listed ds)) 256) refl e
  where
    by : (b : Bool) → nat_le (length (listed ds)) 256 ≡ b → cond b (each_of whole_number (listed ds)) None ≡ Some path → Path (array ds) path
    by true is e =
        let w = wholes (listed ds) path e in
        let long : length (listed ds) ≡ length path = ap length w.are ∙ simp length-map in
        record { is = ap array (sym (items_of-listed ds) ∙ ap items_of w.are); good = record { short = omega (arith, long, leb-true _ _ is); fits = w.fit } }
    by false is e = absurd (cc)

path_is : (d : Data) (path : List ℕ) → path_of d ≡ Some path → Path d path
path_is null path e = absurd (cc)
path_is (boolean b) path e = absurd (cc)
path_is (number n) path e = absurd (cc)
path_is (string s) path e = absurd (cc)
path_is (array ds) path e = steps_are ds path e
path_is (object ms) path e = absurd (cc)

-- the path "at" and the text "text" of an edit
record Placed (make : List ℕ → List ℕ → Edit) (x z : Data) (edit : Edit) : Type 0 where
  path : List ℕ
  text : List ℕ
  good : IsPath path
  at : x ≡ steps path
  said : z ≡ string text
  is : edit ≡ make path text

placed_is : (make : List ℕ → List ℕ → Edit) (x z : Data) (edit : Edit) → option_map (λ p. make p.0 p.1) (option_zip (path_of x) (as_str z)) ≡ Some edit → Placed make x z edit
placed_is make x z edit e = by (path_of x) (as_str z) refl refl e
  where
    by : (o p : Option (List ℕ)) → path_of x ≡ o → as_str z ≡ p → option_map (λ q. make q.0 q.1) (option_zip o p) ≡ Some edit → Placed make x z edit
    by None p path text e = absurd (cc)
    by (Some a) None path text e = absurd (cc)
    by (Some a) (Some b) path text e =
        let at = path_is x a path in
        let same : edit ≡ make a b = cc in
        record { path = a; text = b; good = at.good; at = at.is; said = text_is z b text; is = same }

-- ---- the members of the forms

-- "at", "op", "text"
record AtAndText (word : List ℕ) (d : Data) : Type 0 where
  x : Data
  z : Data
  is : d ≡ object (member AT.now x (member OP.now (string word) (member TEXT.now z no_members)))

at_and_text : (word : List ℕ) (d : Data) → is_line word (AT.now ∷ OP.now ∷ TEXT.now ∷ []) d ≡ true → AtAndText word d
at_and_text word d e =
    let f = formed word (AT.now ∷ OP.now ∷ TEXT.now ∷ []) d e in
    let a = first AT.now (OP.now ∷ TEXT.now ∷ []) f.members f.named_so in
    let b = first OP.now (TEXT.now ∷ []) a.rest a.named_so in
    let c = first TEXT.now [] b.rest b.named_so in
    let shape = λ (y : Data). object (member AT.now a.data_there (member OP.now y (member TEXT.now c.data_there no_members))) in
    let all : d ≡ shape b.data_there =
    f.is_object ∙ ap object (a.is ∙ ap (member AT.now a.data_there) (b.is ∙ ap (member OP.now b.data_there) (c.is ∙ ap (member TEXT.now c.data_there) (none c.rest c.named_so)))) in
    let op : Some b.data_there ≡ Some (string word) = sym (ap (get OP.now) all) ∙ f.op in
    let word_there : b.data_there ≡ string word = cc in
    record { x = a.data_there; z = c.data_there; is = all ∙ ap shape word_there }

-- one member before "op"
record Before (name word : List ℕ) (d : Data) : Type 0 where
  x : Data
  is : d ≡ object (member name x (member OP.now (string word) no_members))

before : (name word : List ℕ) (d : Data) → ((x y : Data) → get OP.now (object (member name x (member OP.now y no_members))) ≡ Some y) → is_line word (name ∷ OP.now ∷ []) d ≡ true → Before name word d
before name word d finds e =
    let f = formed word (name ∷ OP.now ∷ []) d e in
    let a = first name (OP.now ∷ []) f.members f.named_so in
    let b = first OP.now [] a.rest a.named_so in
    let shape = λ (y : Data). object (member name a.data_there (member OP.now y no_members)) in
    let all : d ≡ shape b.data_there = f.is_object ∙ ap object (a.is ∙ ap (member name a.data_there) (b.is ∙ ap (member OP.now b.data_there) (none b.rest b.named_so))) in
    let op : Some b.data_there ≡ Some (string word) = sym (finds a.data_there b.data_there) ∙ sym (ap (get OP.now) all) ∙ f.op in
    let word_there : b.data_there ≡ string word = cc in
    record { x = a.data_there; is = all ∙ ap shape word_there }

-- "key", "node", "op"
record KeyAndNode (word : List ℕ) (d : Data) : Type 0 where
  x : Data
  z : Data
  is : d ≡ object (member KEY.now x (member NODE.now z (member OP.now (string word) no_members)))

key_and_node : (word : List ℕ) (d : Data) → is_line word (KEY.now ∷ NODE.now ∷ OP.now ∷ []) d ≡ true → KeyAndNode word d
key_and_node word d e =
    let f = formed word (KEY.now ∷ NODE.now ∷ OP.now ∷ []) d e in
    let a = first KEY.now (NODE.now ∷ OP.now ∷ []) f.members f.named_so in
    let b = first NODE.now (OP.now ∷ []) a.rest a.named_so in
    let c = first OP.now [] b.rest b.named_so in
    let shape = λ (y : Data). object (member KEY.now a.data_there (member NODE.now b.data_there (member OP.now y no_members))) in
    let all : d ≡ shape c.data_there =
    f.is_object ∙ ap object (a.is ∙ ap (member KEY.now a.data_there) (b.is ∙ ap (member NODE.now b.data_there) (c.is ∙ ap (member OP.now c.data_there) (none c.rest c.named_so)))) in
    let op : Some c.data_there ≡ Some (string word) = sym (ap (get OP.now) all) ∙ f.op in
    let word_there : c.data_there ≡ string word = cc in
    record { x = a.data_there; z = b.data_there; is = all ∙ ap shape word_there }

-- "op" alone
op_alone : (word : List ℕ) (d : Data) → is_line word (OP.now ∷ []) d ≡ true → d ≡ object (member OP.now (string word) no_members)
op_alone word d e =
    let f = formed word (OP.now ∷ []) d e in
    let a = first OP.now [] f.members f.named_so in
    let all : d ≡ object (member OP.now a.data_there no_members) = f.is_object ∙ ap object (a.is ∙ ap (member OP.now a.data_there) (none a.rest a.named_so)) in
    let op : Some a.data_there ≡ Some (string word) = sym (ap (get OP.now) all) ∙ f.op in
    let word_there : a.data_there ≡ string word = cc in
    all ∙ ap (λ y. object (member OP.now y no_members)) word_there

-- ---- which row a command is from

replace_row : (d : Data) (edit : Edit) → is_line REPLACE.now (AT.now ∷ OP.now ∷ TEXT.now ∷ []) d ≡ true → placed replace d ≡ Some edit → IsSimple d edit
replace_row d edit is e =
    let f = at_and_text REPLACE.now d is in
    let p = placed_is replace f.x f.z edit (subst (λ (c : Data). placed replace c ≡ Some edit) f.is e) in
    replaces p.path p.text p.good (rw (← p.at, ← p.said) f.is) p.is

insert_row : (d : Data) (edit : Edit) → is_line INSERT.now (AT.now ∷ OP.now ∷ TEXT.now ∷ []) d ≡ true → placed insert d ≡ Some edit → IsSimple d edit
insert_row d edit is e =
    let f = at_and_text INSERT.now d is in
    let p = placed_is insert f.x f.z edit (subst (λ (c : Data). placed insert c ≡ Some edit) f.is e) in
    inserts p.path p.text p.good (rw (← p.at, ← p.said) f.is) p.is

delete_row : (d : Data) (edit : Edit) → is_line DELETE.now (AT.now ∷ OP.now ∷ []) d ≡ true → option_map delete (path_at AT.now d) ≡ Some edit → IsSimple d edit
delete_row d edit is e = by (path_of f.x) refl (subst (λ (c : Data). option_map delete (path_at AT.now c) ≡ Some edit) f.is e)
  where
    f : Before AT.now DELETE.now d
    f = before AT.now DELETE.now d (λ x y. refl) is

    by : (o : Option (List ℕ)) → path_of f.x ≡ o → option_map delete o ≡ Some edit → IsSimple d edit
    by None path e = absurd (cc)
    by (Some path) found e =
        let p = path_is f.x path found in
        let same : edit ≡ delete path = cc in
        deletes path p.good (rw (← p.is) f.is) same

simple_row : (d : Data) (edit : Edit) → simple_edit_of d ≡ Some edit → IsSimple d edit
unfolding simple_edit_of
simple_row d edit e =
    by (is_line REPLACE.now (AT.now ∷ OP.now ∷ TEXT.now ∷ []) d) (is_line INSERT.now (AT.now ∷ OP.now ∷ TEXT.now ∷ []) d) (is_line DELETE.now (AT.now ∷ OP.now ∷ []) d) refl refl refl e
  where
    by : (a b c : Bool) → is_line REPLACE.now (AT.now ∷ OP.now ∷ TEXT.now ∷ []) d ≡ a → is_line INSERT.now (AT.now ∷ OP.now ∷ TEXT.now ∷ []) d ≡ b → is_line DELETE.now (AT.now ∷ OP.now ∷ []) d ≡ c
        → cond a (placed replace d) (cond b (placed insert d) (cond c (option_map delete (path_at AT.now d)) None)) ≡ Some edit → IsSimple d edit
    by true b c p q r e = replace_row d edit p e
    by false true c p q r e = insert_row d edit q e
    by false false true p q r e = delete_row d edit r e
    by false false false p q r e = absurd (cc)

simple_rows : (ds : List Data) (edits : List Edit) → each_of simple_edit_of ds ≡ Some edits → AreSimple ds edits
simple_rows [] [] e = tt
simple_rows [] (edit ∷ edits) e = absurd (cc)
simple_rows (d ∷ ds) [] e = let c = cut simple_edit_of d ds [] e in absurd (no_cons c.is)
  where
    no_cons : {A : Type 0} {y : A} {ys : List A} → [] ≡ y ∷ ys → ⊥
    no_cons e = cc
simple_rows (d ∷ ds) (edit ∷ edits) e =
    let c = cut simple_edit_of d ds (edit ∷ edits) e in
    let here : c.y ≡ edit = cc in
    let others : c.rest ≡ edits = cc in
    (simple_row d edit (c.one ∙ ap Some here), simple_rows ds edits (c.others ∙ ap Some others))

-- so many members, each an edit
record MembersAre (ds : List Data) (edits : List Edit) : Type 0 where
  each : AreSimple ds edits
  some : 1 ≤ length edits
  few : length edits ≤ 1000

members_are : (ds : List Data) (edits : List Edit) → members_of ds ≡ Some edits → MembersAre ds edits
unfolding members_of
members_are ds edits e = by (nat_lt 0 (length ds) && nat_le (length ds) 1000) refl e
  where
    by : (b : Bool) → (nat_lt 0 (length ds) && nat_le (length ds) 1000) ≡ b → cond b (each_of simple_edit_of ds) None ≡ Some edits → MembersAre ds edits
    by true is e =
        let all = simple_rows ds edits e in
        let long = (edits_back ds edits all).1 in
        let both = and_parts (nat_lt 0 (length ds)) (nat_le (length ds) 1000) is in
        record { each = all; some = omega (arith, long, ltb-true 0 (length ds) both.0); few = omega (arith, long, leb-true (length ds) 1000 both.1) }
    by false is e = absurd (cc)

array_is : (d : Data) (ds : List Data) → option_map listed (as_array d) ≡ Some ds → d ≡ array (items_of ds)
array_is null ds e = absurd (cc)
array_is (boolean b) ds e = absurd (cc)
array_is (number n) ds e = absurd (cc)
array_is (string s) ds e = absurd (cc)
array_is (array js) ds e = let same : listed js ≡ ds = cc in ap array (sym (items_of-listed js) ∙ ap items_of same)
array_is (object ms) ds e = absurd (cc)

batch_row : (d : Data) (edit : Edit) → batch_of d ≡ Some edit → IsCommand d (command.Edit edit)
unfolding batch_of
batch_row d edit e = by (is_line BATCH.now (EDITS.now ∷ OP.now ∷ []) d) refl e
  where
    by : (b : Bool) → is_line BATCH.now (EDITS.now ∷ OP.now ∷ []) d ≡ b → cond b (option_map batch (option_and_then members_of (list_at EDITS.now d))) None ≡ Some edit → IsCommand d (command.Edit edit)
    by false is e = absurd (cc)
    by true is e = found (option_map listed (as_array f.x)) refl (subst (λ (c : Data). option_map batch (option_and_then members_of (list_at EDITS.now c)) ≡ Some edit) f.is e)
      where
        f : Before EDITS.now BATCH.now d
        f = before EDITS.now BATCH.now d (λ x y. refl) is

        made : (ds : List Data) (o : Option (List Edit)) → f.x ≡ array (items_of ds) → members_of ds ≡ o → option_map batch o ≡ Some edit → IsCommand d (command.Edit edit)
        made ds None at are e = absurd (cc)
        made ds (Some edits) at are e =
            let m = members_are ds edits are in
            let same : command.Edit edit ≡ command.Edit (batch edits) = cc in
            batches ds edits m.each m.some m.few (rw (← at) f.is) same

        found : (o : Option (List Data)) → option_map listed (as_array f.x) ≡ o → option_map batch (option_and_then members_of o) ≡ Some edit → IsCommand d (command.Edit edit)
        found None is e = absurd (cc)
        found (Some ds) is e = made ds (members_of ds) (array_is f.x ds is) refl e

show_row : (d : Data) (q : Query) → is_line SHOW.now (KEY.now ∷ NODE.now ∷ OP.now ∷ []) d ≡ true → show_of d ≡ Some q → IsCommand d (command.Query q)
show_row d q is e = by (as_str f.x) (whole_number f.z) refl refl (subst (λ (c : Data). show_of c ≡ Some q) f.is e)
  where
    f : KeyAndNode SHOW.now d
    f = key_and_node SHOW.now d is

    by : (o : Option (List ℕ)) (p : Option ℕ) → as_str f.x ≡ o → whole_number f.z ≡ p → option_map (λ r. query.Show r.0 r.1) (option_zip o p) ≡ Some q → IsCommand d (command.Query q)
    by None p key node e = absurd (cc)
    by (Some s) None key node e = absurd (cc)
    by (Some s) (Some n) key node e =
        let w = whole_is f.z n node in
        let same : command.Query q ≡ command.Query (query.Show s n) = cc in
        shows s n w.1 (rw (← text_is f.x s key, ← w.0) f.is) same

print_row : (d : Data) (q : Query) → is_line PRINT.now (FILE.now ∷ OP.now ∷ []) d ≡ true → option_map query.Print (number_at FILE.now d) ≡ Some q → IsCommand d (command.Query q)
print_row d q is e = by (whole_number f.x) refl (subst (λ (c : Data). option_map query.Print (number_at FILE.now c) ≡ Some q) f.is e)
  where
    f : Before FILE.now PRINT.now d
    f = before FILE.now PRINT.now d (λ x y. refl) is

    by : (p : Option ℕ) → whole_number f.x ≡ p → option_map query.Print p ≡ Some q → IsCommand d (command.Query q)
    by None file e = absurd (cc)
    by (Some n) file e =
        let w = whole_is f.x n file in
        let same : command.Query q ≡ command.Query (query.Print n) = cc in
        prints n w.1 (rw (← w.0) f.is) same

as_query : (q r : Query) → Some q ≡ Some r → command.Query r ≡ command.Query q
as_query q r e = cc

query_row : (d : Data) (q : Query) → query_of d ≡ Some q → IsCommand d (command.Query q)
unfolding query_of
query_row d q e =
    by (is_line REPORT.now (OP.now ∷ []) d) (is_line STATUS.now (OP.now ∷ []) d) (is_line SHOW.now (KEY.now ∷ NODE.now ∷ OP.now ∷ []) d) (is_line PRINT.now (FILE.now ∷ OP.now ∷ []) d) (is_line SAVE.now (OP.now ∷ []) d)
    refl refl refl refl refl e
  where
    by : (a b c g h : Bool) → is_line REPORT.now (OP.now ∷ []) d ≡ a → is_line STATUS.now (OP.now ∷ []) d ≡ b → is_line SHOW.now (KEY.now ∷ NODE.now ∷ OP.now ∷ []) d ≡ c
        → is_line PRINT.now (FILE.now ∷ OP.now ∷ []) d ≡ g → is_line SAVE.now (OP.now ∷ []) d ≡ h
        → cond a (Some query.Report) (cond b (Some query.Status) (cond c (show_of d) (cond g (option_map query.Print (number_at FILE.now d)) (cond h (Some query.Save) None)))) ≡ Some q → IsCommand d (command.Query q)
    by true b c g h p r s t u e = reports (op_alone REPORT.now d p) (as_query query.Report q e)
    by false true c g h p r s t u e = statuses (op_alone STATUS.now d r) (as_query query.Status q e)
    by false false true g h p r s t u e = show_row d q s e
    by false false false true h p r s t u e = print_row d q t e
    by false false false false true p r s t u e = saves (op_alone SAVE.now d u) (as_query query.Save q e)
    by false false false false false p r s t u e = absurd (cc)

pub computed_is_row : (d : Data) (c : Command) → command_of d ≡ Some c → IsCommand d c
unfolding command_of
computed_is_row d c e = by (simple_edit_of d) (batch_of d) (query_of d) refl refl refl e
  where
    by : (o p : Option Edit) (r : Option Query) → simple_edit_of d ≡ o → batch_of d ≡ p → query_of d ≡ r → option_or (option_map command.Edit (option_or o p)) (option_map command.Query r) ≡ Some c → IsCommand d c
    by (Some edit) p r is also last e = let same : c ≡ command.Edit edit = cc in simple edit (simple_row d edit is) same
    by None (Some edit) r is also last e = let same : command.Edit edit ≡ c = cc in subst (IsCommand d) same (batch_row d edit also)
    by None None (Some q) is also last e = let same : command.Query q ≡ c = cc in subst (IsCommand d) same (query_row d q last)
    by None None None is also last e = absurd (cc)

-- the command that is computed of a value is the one of its row in the table
pub table_is_computed : (d : Data) (c : Command) → (command_of d ≡ Some c) ↔ IsCommand d c
table_is_computed d c = (computed_is_row d c, row_is_computed d c)
