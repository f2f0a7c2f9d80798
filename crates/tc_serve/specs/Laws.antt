-- What holds of all that is served.
use Rattle.std.specs.{Prelude.{if◌then◌else◌, List, [], ◌∷◌, ◌++◌}, List.{AllByRecursion, flat_map}, Option.option_map_or}
use Rattle.tc_rules.specs.Prelude.{is_wake}
use Rattle.tc_blocks.specs.declared.line.Line.{Line}
use Rattle.tc_serve.specs.{Protocol.{AreServed, Played, Sent, ServiceState, finished_state}, declared.order.Order.Order}

-- of all that is served this holds of each test case, also of one that is open
abbrev pub AllServed : (Played → Type 0) → Type 0
AllServed P = (lines : List Sent) (s : ServiceState) → AreServed lines s → AllByRecursion P (finished_state s).closed

-- what asked for a line of evidence: a wake and a refusal come of themselves
abbrev pub asked_by : Line → List Order
asked_by (Line.Named run name) = Order.Named run name ∷ []
asked_by (Line.Entry e) = if is_wake e.op then [] else Order.Move e.caller e.op ∷ []
asked_by (Line.Remark run sentence) = Order.Remark run sentence ∷ []
asked_by (Line.Refused run sentence) = []

-- what asked for a test case as far as it goes, the newest first
abbrev pub asked_in : Played → List Order
asked_in p = flat_map asked_by p.lines ++ Order.Case p.name p.behaviours ∷ []

-- and for all
abbrev pub asked_of : ServiceState → List Order
asked_of s = option_map_or asked_in s.current [] ++ flat_map (λ p. Order.End ∷ asked_in p) s.closed
