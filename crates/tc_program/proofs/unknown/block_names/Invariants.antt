use Rattle.std.proofs.Common.{◌≡◌, map, take}
use Rattle.tc_program.proofs.unknown.block_names.Given as goal

abbrev pub invariant-loop-block : goal.invariant-loop-block
invariant-loop-block l = l.names.items ≡ map (λ b. b.header.name) (take l.block-index l.blocks)
