-- When symbols, and lines, are the same.
use Rattle.std.proofs.Common.{◌≡◌, List, [], ◌∷◌, ◌++◌, refl, sym, ◌∙◌, ap, Bool, true, false, ◌&&◌, Option, Some, None, eqb-true}
use Rattle.std.specs.Prelude.{nat_eq}
use Rattle.std.proofs.lemmas.Bool.{and_parts}
use denote.Enum.Bare.{sameb, same_true}
use Rattle.ada_tree.specs.contracts.kind.Kind as kind_row
use Rattle.ada_tree.specs.contracts.word.Word as word_row
use Rattle.ada_tree.specs.contracts.word.Mark as mark_row
use Rattle.reading_table.specs.contracts.symbol.Form as form_row
use Rattle.reading_table.specs.contracts.rule.Rule as rule_row
use Rattle.reading_table.specs.declared.symbol.Symbol.{Symbol}
use Rattle.reading_table.specs.declared.symbol.Symbol.TheVariants as symbol
use Rattle.reading_table.specs.declared.symbol.Tokens.{Tokens}
use Rattle.reading_table.specs.declared.symbol.Tokens.TheVariants as tokens
use Rattle.reading_table.specs.Rows.{Placed}

abbrev pub same_tokens : Tokens → Tokens → Bool
same_tokens (tokens.Word a) (tokens.Word b) = sameb word_row.the_type a b
same_tokens (tokens.Mark a) (tokens.Mark b) = sameb mark_row.the_type a b
same_tokens (tokens.NameOf a) (tokens.NameOf b) = sameb form_row.the_type a b
same_tokens tokens.Name tokens.Name = true
same_tokens tokens.Number tokens.Number = true
same_tokens tokens.Relational tokens.Relational = true
same_tokens tokens.Adding tokens.Adding = true
same_tokens tokens.Multiplying tokens.Multiplying = true
same_tokens tokens.Highest tokens.Highest = true
same_tokens tokens.Maker tokens.Maker = true
same_tokens _ _ = false

abbrev pub same_symbol : Symbol → Symbol → Bool
same_symbol (symbol.Take a) (symbol.Take b) = same_tokens a b
same_symbol (symbol.Keep a) (symbol.Keep b) = same_tokens a b
same_symbol (symbol.Closing a) (symbol.Closing b) = nat_eq a b
same_symbol (symbol.Part a) (symbol.Part b) = sameb rule_row.the_type a b
same_symbol (symbol.Build k a) (symbol.Build l b) = sameb kind_row.the_type k l && nat_eq a b
same_symbol (symbol.Say a) (symbol.Say b) = sameb word_row.the_type a b
same_symbol (symbol.Paste a) (symbol.Paste b) = nat_eq a b
same_symbol (symbol.Recall a) (symbol.Recall b) = nat_eq a b
same_symbol symbol.Join symbol.Join = true
same_symbol symbol.Lower symbol.Lower = true
same_symbol symbol.Notes symbol.Notes = true
same_symbol symbol.Noted symbol.Noted = true
same_symbol symbol.EndNotes symbol.EndNotes = true
same_symbol _ _ = false

abbrev pub same_side : Bool → Bool → Bool
same_side true b = b
same_side false true = false
same_side false false = true

abbrev pub same_placed : Placed → Placed → Bool
same_placed a b = same_symbol a.1 b.1 && same_side a.0 b.0

abbrev pub same_line : List Placed → List Placed → Bool
same_line [] [] = true
same_line [] (b ∷ other) = false
same_line (a ∷ line) [] = false
same_line (a ∷ line) (b ∷ other) = same_placed a b && same_line line other

tokens_told : (a b : Tokens) → same_tokens a b ≡ true → a ≡ b
tokens_told (tokens.Word a) (tokens.Word b) h = ap tokens.Word (same_true word_row.the_type tt a b h)
tokens_told (tokens.Mark a) (tokens.Mark b) h = ap tokens.Mark (same_true mark_row.the_type tt a b h)
tokens_told (tokens.NameOf a) (tokens.NameOf b) h = ap tokens.NameOf (same_true form_row.the_type tt a b h)
tokens_told tokens.Name tokens.Name h = refl
tokens_told tokens.Number tokens.Number h = refl
tokens_told tokens.Relational tokens.Relational h = refl
tokens_told tokens.Adding tokens.Adding h = refl
tokens_told tokens.Multiplying tokens.Multiplying h = refl
tokens_told tokens.Highest tokens.Highest h = refl
tokens_told tokens.Maker tokens.Maker h = refl
tokens_told _ _ h = absurd cc

pub symbol_told : (a b : Symbol) → same_symbol a b ≡ true → a ≡ b
symbol_told (symbol.Take a) (symbol.Take b) h = ap symbol.Take (tokens_told a b h)
symbol_told (symbol.Keep a) (symbol.Keep b) h = ap symbol.Keep (tokens_told a b h)
symbol_told (symbol.Closing a) (symbol.Closing b) h = ap symbol.Closing (eqb-true a b h)
symbol_told (symbol.Part a) (symbol.Part b) h = ap symbol.Part (same_true rule_row.the_type tt a b h)
symbol_told (symbol.Build k a) (symbol.Build l b) h =
    let parts = and_parts (sameb kind_row.the_type k l) (nat_eq a b) h in
    ap (λ k. symbol.Build k a) (same_true kind_row.the_type tt k l parts.0) ∙ ap (symbol.Build l) (eqb-true a b parts.1)
symbol_told (symbol.Say a) (symbol.Say b) h = ap symbol.Say (same_true word_row.the_type tt a b h)
symbol_told (symbol.Paste a) (symbol.Paste b) h = ap symbol.Paste (eqb-true a b h)
symbol_told (symbol.Recall a) (symbol.Recall b) h = ap symbol.Recall (eqb-true a b h)
symbol_told symbol.Join symbol.Join h = refl
symbol_told symbol.Lower symbol.Lower h = refl
symbol_told symbol.Notes symbol.Notes h = refl
symbol_told symbol.Noted symbol.Noted h = refl
symbol_told symbol.EndNotes symbol.EndNotes h = refl
symbol_told _ _ h = absurd cc

pub side_told : (a b : Bool) → same_side a b ≡ true → a ≡ b
side_told true true h = refl
side_told true false h = absurd cc
side_told false true h = absurd cc
side_told false false h = refl

pub placed_told : (a b : Placed) → same_placed a b ≡ true → a ≡ b
placed_told a b h =
    let parts = and_parts (same_symbol a.1 b.1) (same_side a.0 b.0) h in
    let e : a.1 ≡ b.1 = symbol_told a.1 b.1 parts.0 in
    let n : a.0 ≡ b.0 = side_told a.0 b.0 parts.1 in
    ap (λ (s : Symbol). (a.0, s)) e ∙ ap (λ (n : Bool). (n, b.1)) n

pub line_told : (xs ys : List Placed) → same_line xs ys ≡ true → xs ≡ ys
line_told [] [] h = refl
line_told [] (b ∷ bs) h = absurd cc
line_told (a ∷ xs) [] h = absurd cc
line_told (a ∷ xs) (b ∷ ys) h =
    let parts = and_parts (same_placed a b) (same_line xs ys) h in
    let rest : xs ≡ ys = line_told xs ys parts.1 in
    ap (λ z. z ∷ xs) (placed_told a b parts.0) ∙ ap (λ zs. b ∷ zs) rest

-- ---- what is left of a line after its front

abbrev pub after_front : List Placed → List Placed → Option (List Placed)
after_front [] line = Some line
after_front (a ∷ front) [] = None
after_front (a ∷ front) (b ∷ line) = elim (same_placed a b) [ true ↦ after_front front line | false ↦ None ]

pub front_after : (front line rest : List Placed) → after_front front line ≡ Some rest → line ≡ front ++ rest
front_after [] line rest h = cc
front_after (a ∷ front) [] rest h = absurd cc
front_after (a ∷ front) (b ∷ line) rest h = by (same_placed a b) refl h (front_after front line rest)
  where
    by : (t : Bool) → same_placed a b ≡ t → elim t as (λ t. Option (List Placed)) [ true ↦ after_front front line | false ↦ None ] ≡ Some rest → (after_front front line ≡ Some rest → line ≡ front ++ rest) → b ∷ line ≡ a ∷ (front ++ rest)
    by true e h go = ap (λ z. z ∷ line) (sym (placed_told a b e)) ∙ ap (λ zs. a ∷ zs) (go h)
    by false e h go = absurd cc
