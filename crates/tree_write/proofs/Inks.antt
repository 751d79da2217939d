-- What is written is what is laid out.
use Rattle.std.proofs.Common.{◌≡◌, ℕ, ◌+◌, ◌*◌, List, [], ◌∷◌, ◌++◌, refl, sym, ◌∙◌, ap, append_assoc, arith}
use Rattle.std.specs.Prelude.{replicate}
use Rattle.std.proofs.lemmas.List.{replicate-append-replicate}
use Rattle.base_kit.specs.Bytes as byte
use Rattle.ada_tree.specs.Items.{Item, put, put_small, glue, line_break, indent, outdent, note_on, note_off, comment_line}
use Rattle.ada_tree.specs.Rendering.{blanks, line_end, render}
use Rattle.tree_write.specs.Ink.{Ink, with_bytes, drawn, after}

pub after_append : (front back : List Item) (ink : Ink) → after (front ++ back) ink ≡ after back (after front ink)
after_append [] back ink = refl
after_append (item ∷ front) back ink = after_append front back (drawn item ink)

pub items_written : (items rest : List Item) (before later : Ink) → later ≡ after items before → after rest later ≡ after (items ++ rest) before
items_written items rest before later e = ap (after rest) e ∙ sym (after_append items rest before)

one : (item : Item) (items : List Item) (ink : Ink) → (drawn item ink).bytes ++ render (drawn item ink).pen items ≡ ink.bytes ++ render ink.pen (item ∷ items)
one (put lexeme) items ink = simp append_assoc
one (put_small text) items ink = simp append_assoc
one glue items ink = refl
one line_break items ink = simp append_assoc
one indent items ink = simp append_assoc
one outdent items ink = simp append_assoc
one note_on items ink = simp append_assoc
one note_off items ink = simp append_assoc
one (comment_line text) items ink = simp append_assoc

pub laid_out : (items : List Item) (ink : Ink) → (after items ink).bytes ++ line_end (after items ink).pen ≡ ink.bytes ++ render ink.pen items
laid_out [] ink = refl
laid_out (item ∷ items) ink = laid_out items (drawn item ink) ∙ one item items ink

-- ---- blanks

one_step_more : (steps : ℕ) → blanks steps ++ byte.space ∷ byte.space ∷ byte.space ∷ [] ≡ blanks (steps + 1)
one_step_more steps = replicate-append-replicate (3 * steps) 3 byte.space ∙ ap (λ n. replicate n byte.space) (let e : 3 * steps + 3 ≡ 3 * (steps + 1) = omega arith in e)

pub blanks_more : (steps : ℕ) (first before later : Ink) → before ≡ with_bytes (blanks steps) first → later ≡ with_bytes (byte.space ∷ byte.space ∷ byte.space ∷ []) before → later ≡ with_bytes (blanks (steps + 1)) first
blanks_more steps first before later b l =
    l ∙ ap (with_bytes (byte.space ∷ byte.space ∷ byte.space ∷ [])) b
    ∙ ap (λ bytes. let ink : Ink = record { bytes = bytes; pen = first.pen } in ink) (append_assoc first.bytes (blanks steps) (byte.space ∷ byte.space ∷ byte.space ∷ []) ∙ ap (λ more. first.bytes ++ more) (one_step_more steps))
