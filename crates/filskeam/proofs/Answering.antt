-- The words of a line, and what the engine answers, by what the program answers to them.
use Rattle.std.proofs.{Common.{ℕ, ◌≡◌, ◌∙◌, ◌⊎◌, List, [], All, Option, Some, Result, Ok, Err, IfOk, IfErr, MatchResult, OnErr, inl, inr, refl, subst, ◌++◌, ◌∷◌, ap, sym}, lemmas.List.Elements.{All-head, All-tail}}
use Rattle.std.specs.{Str.IsUtf8, declared.io.ErrorKind.ErrorKind as IoKind, declared.io.ErrorKind.TheVariants.OutOfMemory}
use Rattle.clap.specs.declared.error.kind.ErrorKind.{ErrorKind}
use Rattle.tc_command.specs.declared.{read.Refused.Refused, task.Task.Task}
use Rattle.tc_program.specs.Prelude.{IsAnsweredAlone, IsNoTask, IsRefused, IsUnreadInput, Streams, Outcome}
use Rattle.filskeam.specs.Engine.{Answers, line_words, words_from}

-- the two outputs before and after
abbrev streams_of : List ℕ → List ℕ → List ℕ → List ℕ → Streams
streams_of before after untold told = record { before = Some before; after = Some after; untold = Some untold; told = Some told }

module _ {U V : Type 0} (more : U → V) (s : Streams) (outcome : Outcome) where
  no_task : (kind : ErrorKind) → IsNoTask kind s U outcome → IsNoTask kind s V outcome
  no_task kind n = record {
    shown = n.shown;
    mistake = λ m. ((n.mistake m).0, more (n.mistake m).1);
    memory = λ m. ((n.memory m).0, more (n.memory m).1);
  }

  refused : (why : Refused) → IsRefused why s U outcome → IsRefused why s V outcome
  refused (Refused.Line error) r = no_task _ r
  refused (Refused.Word fault) r = (r.0, more r.1)

  either : (Unread : Type 0) (Does : Task → Type 0) (r : Result Task Refused) → MatchResult r Does (λ why. IsRefused why s U outcome × Unread)
      → MatchResult r Does (λ why. IsRefused why s V outcome × Unit {0})
  either Unread Does (Ok task) does = does
  either Unread Does (Err why) is = (refused why is.0, tt)

-- what is answered, where less is said of what was not read, and of what was not written
answered : {U V : Type 0} (Unread : Type 0) (words : List (List ℕ)) (input : Option (List ℕ)) (s : Streams) (outcome : Outcome) → (U → V)
    → IsAnsweredAlone words input s Unread U outcome → IsAnsweredAlone words input s (Unit {0}) V outcome
answered Unread words input s outcome more (inl a) =
    inl (record { answer = a.answer; reading = a.reading; answered = either more s outcome Unread _ a.answer a.answered })
answered Unread words input s outcome more (inr left) = inr left

module _ {A E : Type 0} (texts : A → List (List ℕ)) (kind : E → IoKind) (line input before after untold told : List ℕ) (Unread Unwritten : Type 0)
    (outcome : Outcome) where
  pub answers : (words : Result A E) → before ≡ [] → untold ≡ [] → (Unwritten → after ≡ before) → IfOk words (λ a. texts a ≡ line_words line)
      → IfErr words (λ e. (kind e ≡ OutOfMemory) ⊎ (All IsUtf8 (line_words line) → ⊥))
      → IfOk words (λ a. IsAnsweredAlone (texts a) (Some input) (streams_of before after untold told) Unread Unwritten outcome)
      → IfErr words (λ e. IsUnreadInput (kind e) (Some untold) (Some told) outcome) → OnErr words Unwritten → Answers line input after told outcome.status
  answers (Ok a) begins silent same had not_had alone unread unwritten = record {
    outcome = outcome;
    status_is = refl;
    answered = inl (answered Unread (line_words line) (Some input) (streams_of [] after [] told) outcome (λ u. same u ∙ begins)
        (subst (λ xs. IsAnsweredAlone (line_words line) (Some input) (streams_of xs after [] told) Unread Unwritten outcome) begins
        (subst (λ xs. IsAnsweredAlone (line_words line) (Some input) (streams_of before after xs told) Unread Unwritten outcome) silent
        (subst (λ ws. IsAnsweredAlone ws (Some input) (streams_of before after untold told) Unread Unwritten outcome) had alone))));
  }
  answers (Err e) begins silent same had not_had alone unread unwritten = record {
    outcome = outcome;
    status_is = refl;
    answered = inr (kind e, subst (λ xs. IsUnreadInput (kind e) (Some xs) (Some told) outcome) silent unread, same unwritten ∙ begins, not_had);
  }

-- what is so of all of a list is so of one in the middle of it
in_middle : {C : Type 0} (P : C → Type 0) (before after : List C) (c : C) → All P (before ++ (c ∷ after)) → P c
in_middle P [] after c all = All-head P c after all
in_middle P (b ∷ before) after c all = in_middle P before after c (All-tail P b (before ++ (c ∷ after)) all)

-- if each word is a text, the one that ends here is
pub is_text : (before all : List (List ℕ)) (word left rest : List ℕ) (byte : ℕ) → before ++ words_from word left ≡ all → left ≡ byte ∷ rest → byte ≡ 0
    → All IsUtf8 all → IsUtf8 word
is_text before all word left rest byte is at zero each =
    let now : before ++ (word ∷ words_from [] rest) ≡ all = subst (λ l. before ++ words_from word l ≡ all) (at ∙ ap (λ b. b ∷ rest) zero) is in
    in_middle IsUtf8 before (words_from [] rest) word (subst (λ ws. All IsUtf8 ws) (sym now) each)
