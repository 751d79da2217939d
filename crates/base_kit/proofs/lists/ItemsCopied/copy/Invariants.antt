use Rattle.std.proofs.Common.{◌≡◌, take}
use Rattle.base_kit.proofs.lists.ItemsCopied.copy.Given as goal

abbrev pub invariant-loop-member : goal.invariant-loop-member
invariant-loop-member g l = l.members ≡ take l.member-index l.member-items
