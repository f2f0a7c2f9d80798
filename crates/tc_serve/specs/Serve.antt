-- The service: what is written and reported of the lines that came, what their verdicts come to, and how it ends.
use Rattle.std.specs.{Prelude.{MatchBool, ℕ, ◌+◌, if◌then◌else◌, List, [], ◌∷◌, ◌++◌, codes, length, map, reverse, ◌≡◌, ◌≢◌, ◌-◌, ◌≤◌, ◌^◌, ◌⊎◌, true, false, is_some, is_err, Option, Result, Ok, Err}, Fmt.decimal, List.{flat_map, list_all, list_any}, Option.option_map_or, Result.result_err, Io.KnownBytes.{Appends, Consumes, IsAtEnd}}
use Rattle.tc_rules.specs.Prelude.{Verdict, worst, overall, is_over}
use Rattle.tc_blocks.specs.{Prelude.{end_text, entries_of, line_text, with_lf, header_text}, declared.header.Kind.Kind}
use Rattle.tc_serve.specs.{Protocol.{Played, Sent, ServiceState, why_text, AreServed, NoLf, Refuses, finished_state, seen}, declared.{order.Refusal.Refusal, service.{ServeFault.ServeFault, Ending.Ending, Served.Served}}}
use Rattle.tc_stream.specs.Prelude.{AppendsPrefix}

-- the text of a test case that is open: evidence, as far as it goes
abbrev pub opened_text : Played → List ℕ
opened_text p = with_lf (header_text (record { kind = Kind.Evidence; name = p.name; behaviours = p.behaviours }))
    ++ flat_map (λ l. with_lf (line_text l)) (reverse p.lines)

-- the text so far: the evidence of the test cases that were closed, each with its verdict, and of the one that is open
abbrev pub stand_text : ServiceState → List ℕ
stand_text s = flat_map (λ p. opened_text p ++ with_lf (end_text (overall (entries_of p.lines)))) (reverse s.closed)
    ++ option_map_or opened_text s.current []

-- the worst of the test cases that were closed, each of which counts as error if it is not over
abbrev pub worst_case : ServiceState → Verdict
worst_case s = worst (map (λ p. if is_over (entries_of p.lines) then overall (entries_of p.lines) else Verdict.Error) s.closed)

-- the bytes of lines, the newest first in the list, each with its LF
abbrev pub bytes_of : List Sent → List ℕ
bytes_of [] = []
bytes_of (l ∷ before) = bytes_of before ++ (l.bytes ++ (if l.ended then 10 ∷ [] else []))

-- what is said on standard error of the line of this number, which is refused for this
abbrev pub refused_line_text : ℕ → Refusal → List ℕ
refused_line_text n why = codes "ttrun: line " ++ (decimal n ++ (codes ": " ++ (why_text why ++ (10 ∷ []))))

-- what goes there about these lines, the newest first: each that is refused, and whose refusal no run got, has its line
abbrev pub lines_messages : List Sent → List ℕ
lines_messages [] = []
lines_messages (l ∷ before) = lines_messages before
    ++ option_map_or (λ r. if is_some r.1 then [] else refused_line_text (length before + 1) r.0) (result_err l.came) []

-- why no further line was served: the next is refused outside a test case, or 2^64 - 1 bytes came, or a read failed, before
-- which each line that had ended was served. If no LF ends the next line, the input ends with it
abbrev pub IsWhy : ServeFault → List Sent → ServiceState → List ℕ → Option (List ℕ) → Type 0
IsWhy (ServeFault.Line n why) lines s rest input = (n ≡ length lines + 1) × (is_some s.current ≡ false) × (line more : List ℕ) × NoLf line
    × (((rest ≡ line ++ 10 ∷ more) × Refuses why true (seen line) s) ⊎ ((rest ≡ line) × (line ≢ []) × IsAtEnd input × Refuses why false (seen line) s))
IsWhy ServeFault.TooLong lines s rest input = 2 ^ 64 - 1 ≤ length (bytes_of lines ++ rest)
IsWhy ServeFault.Read lines s rest input = NoLf rest
IsWhy _ lines s rest input = Unit {0}

-- how a service ends that read these bytes, and the text and the reports that it owes then
pub data HasEnded (bytes : List ℕ) (input : Option (List ℕ)) (text reports : List ℕ) : Result Served ServeFault → Type 0 where
  -- the input ended: its lines were served, and the test case that was open was closed
  served : (lines : List Sent) (s : ServiceState) (r : Served) → AreServed lines s → bytes ≡ bytes_of lines → IsAtEnd input
      → r.worst ≡ worst_case (finished_state s) → r.refused ≡ list_any (λ l. is_err l.came) lines
      → text ≡ stand_text (finished_state s)
      → reports ≡ lines_messages lines ++ (if is_some s.current then codes "ttrun: the input ended inside a test case" ++ (10 ∷ []) else [])
      → HasEnded bytes input text reports (Ok r)
  -- or this fault came: these lines were served, and the rest was not; only a last line of the input may lack its LF
  stopped : (lines : List Sent) (s : ServiceState) (rest : List ℕ) (f : ServeFault) → AreServed lines s → bytes ≡ bytes_of lines ++ rest
      → (list_all (λ l. l.ended) lines ≡ true) ⊎ ((rest ≡ []) × IsAtEnd input) → IsWhy f lines s rest input
      → text ≡ stand_text s → reports ≡ lines_messages lines → HasEnded bytes input text reports (Err f)

-- the service ended as was due, and its text was written; or the output failed, and took a prefix of it. Standard error took
-- the reports, or a prefix of them. Of the input it is what is left, and of the others what they took, if that is known
pub record IsServiceEnd (input input' output output' errors errors' : Option (List ℕ)) (e : Ending) : Type 0 where
  pub bytes : List ℕ
  pub text : List ℕ
  pub reports : List ℕ
  pub due : Result Served ServeFault
  pub read : Consumes input input' bytes
  pub ended : HasEnded bytes input' text reports due
  pub written : ((e.outcome ≡ due) × Appends output output' text) ⊎ ((e.outcome ≡ Err ServeFault.Write) × AppendsPrefix output output' text)
  pub reported : MatchBool e.told (Appends errors errors' reports) (AppendsPrefix errors errors' reports)
