-- Which replies an operation can get.
use Rattle.std.specs.Prelude.{Bool, true, false, not}
use Rattle.tc_rules.specs.Prelude.{Op, Reply, is_ok, is_verdict_call, Verdict}

-- the new component is named
abbrev pub is_made : Reply → Bool
is_made (Reply.Made c) = true
is_made _ = false

-- the reply is yes or no
abbrev pub is_answer : Reply → Bool
is_answer (Reply.Answer b) = true
is_answer _ = false

-- the reply is a local verdict that a word can have: error is never in one
abbrev pub is_local_verdict : Reply → Bool
is_local_verdict (Reply.Local Verdict.Error) = false
is_local_verdict (Reply.Local v) = true
is_local_verdict _ = false

-- the target of a wait holds, or not yet
abbrev pub is_of_wait : Reply → Bool
is_of_wait Reply.Matched = true
is_of_wait Reply.Parked = true
is_of_wait _ = false

-- the reply is of the kind that the operation gets if it is neither Ended nor an error
abbrev pub suits_plainly : Op → Reply → Bool
suits_plainly (Op.Create alive name) r = is_made r
suits_plainly (Op.Running t) r = is_answer r
suits_plainly (Op.Alive t) r = is_answer r
suits_plainly (Op.Done t) r = is_answer r
suits_plainly (Op.Killed t) r = is_answer r
suits_plainly (Op.Wait k t) r = is_of_wait r
suits_plainly (Op.Wake k t) r = is_of_wait r
suits_plainly Op.GetVerdict r = is_local_verdict r
suits_plainly _ r = is_ok r

-- the operation can get this reply; a verdict call gets no error
abbrev pub suits : Op → Reply → Bool
suits op Reply.Ended = true
suits op (Reply.Fault f) = not (is_verdict_call op)
suits op r = suits_plainly op r
