-- The local verdicts of the components, and the verdict of the case.
use Rattle.std.specs.Prelude.{ℕ, ◌&&◌, ◌||◌, Option, Some, None, if◌then◌else◌, List, [], ◌∷◌, ◌++◌, map}
use Rattle.tc_entry.specs.{Prelude.{Verdict, worst, given, is_fault, is_ok}, declared.entry.Entry.Entry, declared.op.Op.Op, declared.reply.Reply.Reply}
use Rattle.tc_rules.specs.History.{comps, comp_of, exists, is_comp, is_stop_case}

-- the verdicts that an entry gives to its caller's component: what it sets, and error for a dynamic error or a stop of the
-- test case
abbrev pub gives : Op → Reply → List Verdict
gives (Op.SetVerdict v) Reply.Ok = given v ∷ []
gives op reply = if is_fault reply || (is_stop_case op && is_ok reply) then Verdict.Error ∷ [] else []

-- the verdicts given to component c, the newest first
abbrev pub verdicts_of : List Entry → ℕ → List Verdict
verdicts_of [] c = []
verdicts_of (e ∷ past) c = (if is_comp (comp_of past e.caller.0) c then gives e.op e.reply else []) ++ verdicts_of past c

-- the local verdict of component c: the worst of those given to it
unfoldable pub local : List Entry → ℕ → Verdict
local past c = worst (verdicts_of past c)

-- the verdict of the case: the worst of the local ones
unfoldable pub overall : List Entry → Verdict
overall past = worst (map (local past) (comps past))

-- the local verdict of component c, if it exists
unfoldable pub local_if_any : List Entry → ℕ → Option Verdict
local_if_any past c = if exists past c then Some (local past c) else None
