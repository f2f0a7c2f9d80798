-- A box is put together: the call gets the allocator, the pointer and its memory.
use Rattle.std.proofs.Common.{◌≡◌, List, [], ◌∷◌, ◌++◌, refl, sym, ap, subst}
use mir.Syntax.{Args, Fn, a_type, dcons, dnil}
use mir.Val.{Val, vptr}
use mir.MapTy.{inst_fn}
use base.Fraction.{full_share}
use base.Fml.{ftrue, flft}
use base.Logic.{SProp, ent, emp, id⊢}
use prog.Wp.{WpFn}
use types.Kit.{‵, raw, ◌⊛◌, some, later, at_ret, ◌$◌, ◌∵◌, !, qed, by, move, keep, drop, split, split3, join, fsplit, fjoin, fpick, pick, suffices, use0, use1, await, rewrite, feq_i}
use types.Run.{stop, fld, of_opd, no_more, and_then, first, blocks, exec, returns, enter}
use types.ByLocal.{alloc_all, pass_all, free_all, look_at, get, get_in, sets, lands_last, env}
use types.Part.{sub, whole}
use contract.BorrowLft.{◌⊑◌, ⊑_refl}
use contract.Monad.{fact, fact_i}
use contract.Running.{tables}
use denote.Exit.{yes, no}
use denote.RattleType.{RattleType, owns}
use denote.Signature.{types_at, plain}
use denote.RawPtr.{block_ptr}
use denote.Steps.{nothing, only, heard}
use denote.Param.{param, layout, bounded}
use denote.Param.NoDrop.{glues}
use denote.Triple.Call.{calls_at_last}
use denote.Triple.Clauses.{Lasts, lasts}
use denote.Triple.Spec.{triple_of}
use denote.Triple.Table.{framed}
use denote.Triple.Walked.{Stays, stay_dropped, Goes-dropped, walk_of}
use Rattle.std.proofs.{alloc.{Calls.{Goes-blank, handle_tells}, Shapes.after}, cell.Inside.Good, BoxSteps.Steps.{box_out, box_in}, raw_atomic.Walks.{proved_at, leaves}}
use Rattle.std.proofs.BoxSteps.Form as form
use Rattle.std.proofs.impls.GlobalAllocator.TheImpl.Met as allocates
use Rattle.std.specs.contracts.boxed.Box.from_raw as callee
use Rattle.std.proofs.boxed.Box.from_raw.Met as callee_met
use Rattle.tc_table.specs.contracts.held_case.Bare as bare
use Rattle.std.specs.contracts.alloc.Global as global
use Rattle.tc_table.{proofs.{Pieces.{heap, no_drop, alone, bare_apart}, held_case.Bare.boxed.Statement.statement}, specs.contracts.held_case.Bare.boxed.{ended, clauses}}
use Rattle.tc_table.specs.contracts.held_case.Bare.boxed.Key.{name as #self}
use Rattle.tc_table.proofs.held_case.Bare.boxed.Code as code

pub boxed_spec : {M : Type 1} → statement M
unfolding Rattle.tc_table.proofs.Destruct++none.drop.Code.code
boxed_spec {M} 𝓤 𝓛 𝓜 𝓡 wired T LT dT glue =
    let 𝓣 = tables 𝓤 𝓛.H 𝓜 𝓡 𝓡.env in let R : RattleType = param 0 T in let Z = heap.row in let En = ended T dT in let c = clauses T dT 𝓛 𝓜.mem 𝓡.returns in
    let args : Args = bounded (a_type ∷ []) (T, tt) (dcons dT dnil) in let fn : Fn = inst_fn args code.function in
    let E : form.Bx = record { row = T; laws = LT; al = heap } in let B : RattleType = form.B E in let D : RattleType = bare.the_row R in
    let stays : Stays En.signature.params En.kept = (stay_dropped (plain (λ _. D)) no, (stay_dropped (plain (λ _. global.the_row)) yes, tt)) in
    let Ce = callee.ended T Z heap.g heap.d no_drop in let G = triple_of 𝓛 (callee.signature T Z heap.g heap.d no_drop) (callee.spec T Z heap.g heap.d no_drop 𝓛 𝓜.mem 𝓡.returns) in
    let known = callee_met.met 𝓤 𝓛 𝓜 𝓡 (code.calls-std_alloc::boxed::Box::from_raw 𝓡.env wired) T Z LT heap.laws heap.g heap.d no_drop
    (allocates.passed 𝓡.env (code.calls-std_heap::GlobalAllocator::allocate 𝓡.env wired) (code.calls-std_heap::GlobalAllocator::deallocate 𝓡.env wired)
    (code.calls-std_heap::GlobalAllocator::grow 𝓡.env wired) (code.calls-std_heap::GlobalAllocator::shrink 𝓡.env wired) M 𝓤 𝓛 𝓜 𝓡)
    (glues "tc_table::Destruct++none::drop" 𝓡.env (code.calls-tc_table::Destruct++none::drop 𝓡.env wired) Z heap.laws M 𝓤 𝓛 𝓜 𝓡) in
    proved_at 𝓛 En stays c 𝓜 𝓡 (Goes-blank 𝓛 1 (plain (λ _. D)) no (λ κs x f. tt), (Goes-dropped 𝓛 1 (plain (λ _. global.the_row)) yes (λ κs x f. refl), tt)) (#self args) fn (code.unfolded 𝓤 𝓛.H 𝓜 𝓡 wired (T, tt) dT) (λ z are.
    let κs = z.0.0 in let d = z.0.3.0 in let a = z.0.3.1.0 in let x = d.value in let lives = κs.0 ⊑ T.lives in let t = ‵ (flft κs.0 z.0.1.0) in let always = ‵ (flft [] full_share) in
    let Post : Val → SProp 𝓤 = (walk_of 𝓛 En stays c).post z in let Run : List Val → SProp 𝓤 = λ ws. WpFn 𝓤 𝓛.H 𝓣.C 𝓣.Λ fn ws Post in
    qed 𝓛 (((t ⊛ ‵ ftrue) ⊛ ‵ (owns (types_at En.signature.params κs) z.0.3 z.0.4)) ∷ (raw (fact 𝓤 lives) ⊛ ‵ ftrue) ∷ []) ∵
    move ! (1 ∷ []) $ split ! $ heard ! lives (λ le. drop ! $ split ! $ split ! $ move ! (2 ∷ []) $ fsplit ! $
    bare_apart ! R d z.0.4.0 (λ b o is. fpick ! (λ held. move ! (1 ∷ []) $ fsplit ! $ handle_tells heap ! a z.0.4.1.0 (λ h of fits.
    -- [the allocator; nothing; the memory; the token; nothing]
    let w = alone (block_ptr b o) in let v = vptr b o in
    let y : G.Ghost = (((κs.0, ([], tt)), (z.0.1.0, (full_share, tt)), tt, (a, (block_ptr b o, tt)), (h ∷ [], (v ∷ [], tt))), x) in
    -- the call asks for two tokens, the allocator and the pointer, that both types live so long, and the memory
    move ! (1 ∷ []) $ feq_i ! (List Val) (v ∷ []) (v ∷ []) refl $ fjoin ! $ move ! (1 ∷ 0 ∷ []) $ fjoin ! $
    use0 𝓛 always (𝓛.lfts.lft-nil full_share) $ move ! (0 ∷ 4 ∷ []) $ join ! $ move ! (3 ∷ 0 ∷ []) $ join ! $ join ! $
    move ! (1 ∷ []) $ use0 𝓛 (raw (fact 𝓤 ([] ⊑ Z.lives))) (fact_i 𝓤 ([] ⊑ Z.lives) (emp 𝓤) (⊑_refl [])) $ join ! $
    use0 𝓛 (raw (fact 𝓤 lives)) (fact_i 𝓤 lives (emp 𝓤) le) $ join ! $ move ! (1 ∷ 0 ∷ []) $ join ! $ use1 𝓛 (raw (G.pre y)) (id⊢ 𝓤 _) $
    suffices ! (Run (w ∷ h ∷ [])) (subst (λ (us : List Val). ent 𝓤 (Run (w ∷ h ∷ [])) (Run us)) (sym (λ i. is i ++ (of i ++ []))) (id⊢ 𝓤 (Run (w ∷ h ∷ [])))) $
    enter ! 𝓣.C 𝓣.Λ fn (w ∷ h ∷ []) Post $ alloc_all ! (λ l. pass_all ! refl ((tt, (tt, tt)), (fits, tt)) $
    sets ! (of_opd ! (get_in ! (fld ! refl (stop !)) (sub ! 0 refl (whole !)))) refl (tt, tt) $ first ! $ blocks ! $
    calls_at_last ! (framed 𝓤 𝓛.H 𝓜 𝓣) G known y (and_then ! (get ! refl) (and_then ! (get ! refl) (no_more !))) (λ u.
    use1 𝓛 (later (some (λ (r : B.Denot). ((t ⊛ always ⊛ ‵ ftrue) ⊛ ‵ (B.own_val r (u ∷ []))) ⊛ some (λ (ls : Lasts Ce y.0.0 y.0.3). ‵ (lasts Ce y.0.0 y.0.3 ls) ⊛ (raw (fact 𝓤 (r.value ≡ x)) ⊛ raw (fact 𝓤 (r.alloc ≡ a))))))) (id⊢ 𝓤 _) $
    await ! tt $ pick ! (λ r. split ! $ move ! (1 ∷ []) $ pick ! (λ ls. split3 ! $ drop ! $ heard ! (r.value ≡ x) (λ same. drop ! $ split ! $ move ! (1 ∷ []) $
    box_out E ! r (u ∷ []) (λ b' o' h' at' is' fits'. box_in E ! r b' o' r.value at' refl $
    let good : Good (layout B) u = subst (Good (layout B)) (sym (ap only is')) (form.box_typed E h' b' o' fits') in
    rewrite ! 0 (λ (us : List Val). ‵ (B.own_val r us)) (sym is') refl $ lands_last ! refl good $
    exec ! 𝓣.C 𝓣.Λ (env fn.locals l) (after 2 fn.body) (at_ret (env fn.locals l) Post) $ sets ! (of_opd ! (get ! refl)) refl good $
    -- [the box; the tokens]
    use0 𝓛 (raw (fact 𝓤 (r.value ≡ x))) (fact_i 𝓤 (r.value ≡ x) (emp 𝓤) same) $ nothing ! $ nothing ! $ nothing ! $ fjoin ! $ nothing ! $ fjoin ! $
    move ! (4 ∷ []) $ split3 ! $ move ! (0 ∷ 2 ∷ []) $ join ! $
    -- [the token; the other; the parameters; nothing; the clause; the box]
    returns ! (look_at ! 0 refl) $ free_all ! refl $ keep ! (0 ∷ 2 ∷ 5 ∷ 4 ∷ []) $
    by ! (leaves 𝓛 En stays c z u r (_, (tt, tt)) (tt, (tt, tt))))))))))))))
