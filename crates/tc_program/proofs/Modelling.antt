-- What is made of a text, by its blocks, for their models.
use Rattle.std.proofs.Common.{◌≡◌, false, List, ℕ, Option, Result, Ok, Err, inl, subst}
use Rattle.tc_answer.specs.declared.{fault.RunFault.RunFault, reply.Answer.Answer}
use Rattle.tc_blocks.specs.{declared.block.Block.Block, Prelude.{AreEvidence, HoldsOfBlocks, IsReadIn}, declared.limit.Limit.Limit}
use Rattle.tc_command.specs.declared.task.Choice.{Choice}
use Rattle.tc_judge.specs.Prelude.{IsMadeOfInput, are_named}
use Rattle.tc_program.specs.{Inside.IsMadeOf, Model.IsModelled}

-- the blocks of the text are these
pub modelled : (choice : Choice) (text : List ℕ) (blocks : List Block) (made : Result Answer RunFault) → HoldsOfBlocks text (λ all. blocks ≡ all) → IsMadeOf choice blocks made →
    IsModelled choice text made
modelled choice text blocks (Ok a) are is = (
  record { blocks = are.blocks; evidence = are.evidence; holds = λ all evidence. (subst (λ b. IsMadeOf choice b (Ok a)) (are.holds all evidence) is).0 },
  λ all evidence so. (subst (λ b. IsMadeOf choice b (Ok a)) (are.holds all evidence) is).1,
)
modelled choice text blocks (Err RunFault.Only) are is = record {
  blocks = are.blocks;
  evidence = are.evidence;
  holds = λ all evidence. (tt, subst (λ b. are_named choice.last choice.only.items b ≡ false) (are.holds all evidence) is);
}
modelled choice text blocks (Err RunFault.NoMemory) are is = tt
modelled choice text blocks (Err fault) are is = absurd is

-- of a text that was read whole
pub modelled_text : (choice : Choice) (text : List ℕ) (blocks : List Block) (made : Result Answer RunFault) → AreEvidence text blocks → ((all : List Block) → AreEvidence text all → blocks ≡ all) →
    IsMadeOf choice blocks made → IsModelled choice text made
modelled_text choice text blocks made are only is = modelled choice text blocks made (record { blocks = blocks; evidence = are; holds = only }) is

-- of an input
pub modelled_input : (choice : Choice) (l limit : Limit) (input : Option (List ℕ)) (blocks : List Block) (made : Result Answer RunFault) → l ≡ limit →
    IsReadIn l input (λ text. HoldsOfBlocks text (λ all. blocks ≡ all)) → IsMadeOf choice blocks made → IsMadeOfInput limit input (IsModelled choice) made
modelled_input choice l limit input blocks made same read is =
    subst (λ m. IsMadeOfInput m input (IsModelled choice) made) same (inl (read.0, read.1, read.2, modelled choice read.0 blocks made read.3 is))
