-- A move list, played move by move.
use Rattle.std.{proofs.{Common.{ℕ, ◌≡◌, List, [], ◌∷◌, ◌++◌, map, reverse, refl, ap, subst, sym, ◌∙◌}, lemmas.List.{Concat.flat_map-append, append-nil, map-append, reverse-append}}, specs.List.flat_map}
use Rattle.tc_rules.{specs.Prelude.{Verdict, Entry, Reply, StandsFor, overall}, proofs.Lemmas.Standing.legal_for}
use Rattle.tc_text.specs.Prelude.{Move, IsMadeOfMoves, IsMoveList, reply_text}
use Rattle.tc_report.specs.Prelude.{verdict_line, verdict_status}
use Rattle.tc_program.specs.{Inside.{ArePlayed, move_of, reply_line}, Replay.Replays, declared.replaying.Replaying.Replaying}

one_line : (h : List Entry) (e : Entry) → flat_map reply_line (h ++ e ∷ []) ≡ flat_map reply_line h ++ reply_line e
one_line h e = flat_map-append reply_line h (e ∷ []) ∙ ap (λ l. flat_map reply_line h ++ l) (append-nil (reply_line e))

pub played_none : (n : ℕ) (r : Replaying) → r.state.behaviours ≡ n → StandsFor r.state [] → r.out.items ≡ [] → ArePlayed n [] r
played_none n r same stands empty = record { history = []; moves_are = refl; behaviours = same; stands = stands; lines = empty }

pub played_more : (n : ℕ) (moves : List Move) (r r' : Replaying) (m : Move) (reply : Reply) → ArePlayed n moves r → r'.state.behaviours ≡ r.state.behaviours →
    ((past : List Entry) → StandsFor r.state past → StandsFor r'.state (record { caller = m.0; op = m.1; reply = reply } ∷ past)) →
    r'.out.items ≡ r.out.items ++ (reply_text reply ++ 10 ∷ []) → ArePlayed n (moves ++ m ∷ []) r'
played_more n moves r r' m reply before same plays wrote =
    let h = before.history in
    let e : Entry = record { caller = m.0; op = m.1; reply = reply } in
    let one_more : map move_of (h ++ e ∷ []) ≡ map move_of h ++ m ∷ [] = map-append move_of h (e ∷ []) in
    record {
      history = h ++ e ∷ [];
      moves_are = one_more ∙ ap (λ (ms : List Move). ms ++ m ∷ []) before.moves_are;
      behaviours = same ∙ before.behaviours;
      stands = subst (λ (past : List Entry). StandsFor r'.state past) (sym (reverse-append h (e ∷ []))) (plays (reverse h) before.stands);
      lines = wrote ∙ (ap (λ l. l ++ reply_line e) before.lines ∙ sym (one_line h e));
    }

pub all_played : (text out : List ℕ) (r : Replaying) (verdict : Verdict) → IsMadeOfMoves ArePlayed text r → ((past : List Entry) → StandsFor r.state past → verdict ≡ overall past) →
    out ≡ r.out.items ++ verdict_line verdict → Replays text out (verdict_status verdict)
all_played text out r verdict so is more =
    let played = so.3 in
    let h = played.history in
    let right : verdict ≡ overall (reverse h) = is (reverse h) played.stands in
    record {
      behaviours = so.0;
      history = h;
      list = subst (IsMoveList text so.0) (sym played.moves_are) so.2;
      legal = legal_for so.0 r.state (reverse h) played.behaviours played.stands;
      out_is = more ∙ (ap (λ l. l ++ verdict_line verdict) played.lines ∙ ap (λ v. flat_map reply_line h ++ verdict_line v) right);
      status_is = ap verdict_status right;
    }
