-- What is written so far and where writing stands, and what one item more makes of it.
use Rattle.std.specs.Prelude.{ℕ, suc, ◌-◌, List, [], ◌∷◌, ◌++◌, Bool, false, true, Some, None}
use Rattle.base_kit.specs.Bytes as byte
use Rattle.ada_tree.specs.Items.{Item, put, put_small, glue, line_break, indent, outdent, note_on, note_off, comment_line}
use Rattle.ada_tree.specs.Rendering.{Pen, margin, lexeme_text, has_no_blank_before, has_no_blank_after, gap, after_token, line_end, fresh}
use Rattle.tree_write.specs.declared.page.Page.{Page}

pub record Ink : Type 0 where
  pub bytes : List ℕ
  pub pen : Pen

abbrev pub ink_of : Page → Ink
ink_of page = record { bytes = page.bytes.items; pen = record { depth = page.depth; outer = page.outer; is_fresh = page.is_fresh; is_tight = page.is_tight } }

abbrev pub with_bytes : List ℕ → Ink → Ink
with_bytes more ink = record ink { bytes = ink.bytes ++ more }

-- a token, and whether no blank stands before it and after it
abbrev pub with_token : List ℕ → Bool → Bool → Ink → Ink
with_token text no_blank tight ink = record { bytes = (ink.bytes ++ gap ink.pen no_blank) ++ text; pen = after_token ink.pen tight }

-- the line has ended, if anything stands in it, and writing stands so
abbrev pub with_line_end : Pen → Ink → Ink
with_line_end pen ink = record { bytes = ink.bytes ++ line_end ink.pen; pen = pen }

abbrev pub drawn : Item → Ink → Ink
drawn (put lexeme) ink = with_token (lexeme_text lexeme) (has_no_blank_before lexeme) (has_no_blank_after lexeme) ink
drawn (put_small text) ink = with_token text false false ink
drawn glue ink = record ink { pen = record ink.pen { is_tight = true } }
drawn line_break ink = with_line_end (fresh ink.pen.depth ink.pen.outer) ink
drawn indent ink = with_line_end (fresh (suc ink.pen.depth) ink.pen.outer) ink
drawn outdent ink = with_line_end (fresh (ink.pen.depth - 1) ink.pen.outer) ink
drawn note_on ink = with_line_end (fresh ink.pen.depth (Some ink.pen.depth)) ink
drawn note_off ink = with_line_end (fresh ink.pen.depth None) ink
drawn (comment_line text) ink = with_bytes (margin ink.pen.depth ink.pen.outer ++ text ++ byte.line_feed ∷ []) (with_line_end (fresh ink.pen.depth ink.pen.outer) ink)

abbrev pub after : List Item → Ink → Ink
after [] ink = ink
after (item ∷ items) ink = after items (drawn item ink)
