-- The rules of proof, by their table.
use Rattle.std.specs.Prelude.{ℕ, List, [], Option, bytes_eq, slice_get}
use Rattle.std.specs.Option.{option_map_or}
use denote.Enum.Declared.{tag_of}
use Rattle.ada_tree.specs.declared.rule.ProofRule.{ProofRule}
use Rattle.ada_tree.specs.contracts.rule.ProofRule.{the_type}
use Rattle.ada_tree.specs.declared.rule.TheConstants.{PROOF_RULES}
use Rattle.ada_tree.specs.declared.grammar.Argument.{Argument}
use Rattle.ada_tree.specs.Tables.{first_value}

abbrev pub rule_text : ProofRule → List ℕ
rule_text r = option_map_or (λ row. row.1.now) (slice_get PROOF_RULES (tag_of the_type r)) []

abbrev pub rule_of : List ℕ → Option ProofRule
rule_of text = first_value (λ row. row.0) (λ row. bytes_eq row.1.now text) PROOF_RULES

abbrev pub rule_arguments : ProofRule → List Argument
rule_arguments r = option_map_or (λ row. row.2.now) (slice_get PROOF_RULES (tag_of the_type r)) []

-- the arguments of a step by the rule of this name: none where there is no such rule
abbrev pub arguments_of : List ℕ → List Argument
arguments_of text = option_map_or rule_arguments (rule_of text) []
