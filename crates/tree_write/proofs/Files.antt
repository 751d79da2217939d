-- A file's text.
use Rattle.std.proofs.Common.{◌≡◌, ℕ, List, [], ◌++◌, Some, sym, ◌∙◌, ap, subst, false}
use Rattle.ada_tree.specs.declared.kind.Kind.TheVariants as kind
use Rattle.ada_tree.specs.declared.grammar.Choice.TheVariants.{Only, Expr}
use Rattle.ada_tree.specs.declared.grammar.Shape.TheVariants.{One}
use Rattle.ada_tree.specs.declared.node.Node.{Node}
use Rattle.ada_tree.specs.Items.{signs}
use Rattle.ada_tree.specs.Reading.{IsReading}
use Rattle.ada_tree.specs.Canonical.{items_of}
use Rattle.ada_tree.specs.Rendering.{start, line_end, file_text}
use Rattle.lex_ada.specs.declared.token.Token.{Token}
use Rattle.lex_ada.specs.Lexis.{AreTokens}
use Rattle.lex_ada.specs.Meanings.{meanings}
use Rattle.lex_ada.specs.Rendered.{HasSigns}
use Rattle.tree_write.specs.Ink.{Ink, after}
use Rattle.tree_write.specs.Tasks.{as_written}
use Rattle.tree_write.specs.Reread.{AreReadAs}
use Rattle.tree_write.specs.Pens.{inside}
use Rattle.tree_write.specs.SequentLines.{line_of}
use Rattle.tree_write.proofs.Inks.{laid_out}

abbrev blank_page : Ink
blank_page = record { bytes = []; pen = start }

pub file_written : (file : Node) (first last : Ink) → first ≡ blank_page → last ≡ after ((as_written file).at (One (Only kind.File))) first → last.bytes ++ line_end last.pen ≡ file_text (Some file)
unfolding items_of
file_written file first last f l =
    ap (λ (ink : Ink). ink.bytes ++ line_end ink.pen) (l ∙ ap (after ((as_written file).at (One (Only kind.File)))) f) ∙ laid_out ((as_written file).at (One (Only kind.File))) blank_page

pub read_again : (file : Node) (bytes : List ℕ) → bytes ≡ file_text (Some file) → HasSigns (file_text (Some file)) (signs false (items_of (One (Only kind.File)) file))
    → ((tokens : List Token) → AreTokens (file_text (Some file)) tokens → IsReading false (Only kind.File) (meanings (file_text (Some file)) tokens) file) → AreReadAs bytes file
read_again file bytes e has reads =
    let same : AreReadAs (file_text (Some file)) file = record { tokens = has.tokens; fall = has.fall; reading = reads has.tokens has.fall } in
    subst (λ text. AreReadAs text file) (sym e) same

-- ---- a term's line

abbrev begun_line : Ink
begun_line = record { bytes = []; pen = inside }

pub line_written : (node : Node) (first last : Ink) → first ≡ begun_line → last ≡ after ((as_written node).at (One Expr)) first → last.bytes ++ line_end last.pen ≡ line_of node
unfolding items_of
line_written node first last f l = ap (λ (ink : Ink). ink.bytes ++ line_end ink.pen) (l ∙ ap (after ((as_written node).at (One Expr))) f) ∙ laid_out ((as_written node).at (One Expr)) begun_line
