-- A null pointer is made, which owns nothing.
use Rattle.std.{proofs.Common.{◌≡◌, [], ◌∷◌, refl, lit<}, specs.Prelude.{None, Option}}
use mir.Val.{Val}
use base.Logic.{SProp, emp}
use base.Fml.{ftrue}
use types.Kit.{‵, raw, ◌⊛◌, ◌$◌, ◌∵◌, !, qed, by, keep, split, use0}
use types.Run.{lit, no_more, and_then, returns, enter}
use types.ByLocal.{alloc_all, pass_all, free_all, look_at, sets}
use types.Part.{agg}
use contract.Monad.{fact, fact_i}
use contract.Running.{tables}
use denote.RawPtr.{null_ptr}
use denote.Steps.{nothing}
use denote.Triple.Entry.{alive}
use denote.Triple.Walked.{walk_of}
use Rattle.std.proofs.raw_atomic.Walks.{proved, leaves}
use Rattle.tc_rules.specs.Standing.{Case}
use Rattle.tc_table.{proofs.{Pieces.{alone, owned_together}, held_case.OwnedTable.none.Statement.statement}, specs.contracts.held_case.OwnedTable.none.{ended, clauses}}
use Rattle.tc_table.specs.contracts.held_case.OwnedTable.none.Key.{name as #self}
use Rattle.tc_table.proofs.held_case.OwnedTable.none.Code as code

abbrev no_case : Option Case
no_case = None

pub none_spec : {M : Type 1} → statement M
none_spec 𝓤 𝓛 𝓜 𝓡 wired =
    let 𝓣 = tables 𝓤 𝓛.H 𝓜 𝓡 𝓡.env in let c = clauses 𝓛 𝓜.mem 𝓡.returns in
    proved 𝓛 ended tt c 𝓜 𝓡 tt #self code.function (code.unfolded 𝓤 𝓛.H 𝓜 𝓡 wired) (λ κs. tt) (λ κs. tt) (λ κs qs bounds a gh are.
    let y : (walk_of 𝓛 ended tt c).Ghost = ((κs, qs, bounds, a, tt), gh) in let Post : Val → SProp 𝓤 = (walk_of 𝓛 ended tt c).post y in
    qed 𝓛 ((raw (alive 𝓛 ended.signature κs qs) ⊛ ‵ ftrue) ∷ raw ((c κs a).requires gh) ∷ []) ∵ split ! $ keep ! (0 ∷ []) $
    enter ! 𝓣.C 𝓣.Λ code.function [] Post $ alloc_all ! (λ l. pass_all ! refl tt $
    sets ! (agg ! (and_then ! (lit ! tt) (no_more !))) refl (tt, (record { fits = lit< tt }, tt)) $
    nothing ! $ owned_together ! null_ptr None $ nothing ! $ use0 𝓛 (raw (fact 𝓤 (no_case ≡ None))) (fact_i 𝓤 (no_case ≡ None) (emp 𝓤) refl) $
    -- [the clause; no parameter; the place; the tokens]
    returns ! (look_at ! 0 refl) $ free_all ! refl $ keep ! (3 ∷ 1 ∷ 2 ∷ 0 ∷ []) $
    by ! (leaves 𝓛 ended tt c y (alone null_ptr) (record { at = null_ptr; case = None }) tt tt)))
