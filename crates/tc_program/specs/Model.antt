-- What `model` makes of histories and evidence.
use Rattle.std.specs.Prelude.{ℕ, ◌≡◌, ◌≤◌, ◌==◌, if◌then◌else◌, List, Result, filter, length, map}
use Rattle.std.specs.List.{flat_map}
use Rattle.tc_blocks.specs.{declared.block.Block.Block, Prelude.HoldsOfBlocks}
use Rattle.tc_command.specs.declared.task.Choice.{Choice}
use Rattle.tc_answer.specs.declared.{fault.RunFault.RunFault, limits.TheConstants.SCRIPT_LIMIT, reply.Answer.Answer}
use Rattle.tc_judge.specs.Prelude.{IsMadeOfBlocks, counting, is_chosen}
use Rattle.tc_model.specs.{Prelude.{AreAttempts, AreModels, attempt_note, written}, declared.models.Attempt.Attempt}

-- Of these blocks those that have a model are written as a script, which is not too long to be read. Of each other is said which line no
-- model has, and why: that is its first fault. The status is 3 if there is one.
pub record AnswersBlocks (blocks : List Block) (a : Answer) : Type 0 where
  pub attempts : List Attempt
  pub of_blocks : map (λ t. t.block) attempts ≡ blocks
  pub models : AreModels a.out (written attempts)
  pub tried : AreAttempts attempts
  pub short : length a.out ≤ SCRIPT_LIMIT
  pub told : a.told ≡ flat_map attempt_note attempts
  pub status : a.status ≡ (if length (flat_map attempt_note attempts) == 0 then 0 else 3)

-- of the blocks of the text that count the chosen are answered, and each pattern of the choice matches the name of one that counts; or
-- the text is refused, or a pattern
abbrev pub IsModelled : Choice → List ℕ → Result Answer RunFault → Type 0
IsModelled choice text = IsMadeOfBlocks (λ blocks. Unit {0}) choice text
    (λ a. HoldsOfBlocks text (λ all. AnswersBlocks (filter (is_chosen choice) (counting choice.last all)) a))
