-- Lines that come in pieces, and what is read and written of them, turn by turn.
use Rattle.std.{proofs.{Common.{ℕ, ◌≡◌, ◌≢◌, ◌∙◌, ◌==◌, ◌||◌, ◌+◌, ◌-◌, ◌<◌, ◌≤◌, inl, inr, if◌then◌else◌, Bool, true, false, is_some, is_err, Option, Some, None, Result, Ok, Err, MatchResult, List, [], ◌∷◌, ◌++◌, codes, zero, suc, length, take, get_or, refl, ap, sym, subst, append_assoc, arith, ◌^◌, ◌↔◌, ◌⊎◌, IfErr, OnErr}, KnownBytes.{Appends-trans, Consumes-kept, Consumes-trans}, Math.Seq.take-append-add, lemmas.List.{append-nil, length-append, take-append-le, take_more}}, specs.{Fmt.decimal, Io.KnownBytes.{IsAtEnd, Appends, Consumes, Keeps}, List.list_all, Result.{result_err, result_unwrap_or}, Option.option_map_or}}
use Rattle.tc_serve.{specs.{Inside.{Closes, Counts, Fails, Feeds, IsAtLine, IsBadLine, IsEnd, IsFed, Serves, StandsAs, StopsIn, TakesPiece, TellsRun, Tries, TriesLine, Hears, IsAt, IsOwn, IsTurn, IsTaken, end_told, IsNobodys}, Protocol.{Comes, IsOf, IsOrderOf, NoLf, Refuses, Sent, ServiceState, after_order, finished_state, seen, why_text}, Serve.{HasEnded, IsWhy, served, stopped, bytes_of, lines_messages, refused_line_text, worst_case, IsServiceEnd}, declared.{service.{ServeFault.ServeFault, Served.Served, Ending.Ending}, order.{Order.Order, TheConstants.LINE_BYTES, Refusal.Refusal}, server.Server.Server, serving.Serving.Serving}}, proofs.Changes.appended}
use Rattle.tc_stream.specs.Prelude.{AppendsPrefix}
use Rattle.tc_rules.specs.Prelude.{Run}
use Rattle.tc_rules.proofs.Lemmas.Deciding.{and_left, and_right}

-- ---- lines

no_lf_both : (l p : List ℕ) → NoLf l → NoLf p → NoLf (l ++ p)
no_lf_both [] p plain more = more
no_lf_both (x ∷ xs) p plain more = (plain.0, no_lf_both xs p plain.1 more)

-- one more byte that is no LF
pub no_lf_next : (bs : List ℕ) (i d : ℕ) → i < length bs → NoLf (take i bs) → (get_or bs i d == 10) ≡ false → NoLf (take (i + 1) bs)
no_lf_next bs i d within plain other = rw (take_more bs i d within) (no_lf_both (take i bs) (get_or bs i d ∷ []) plain (other, tt))

take_none : (n : ℕ) → ◌≡◌ {A = List ℕ} (take n []) []
take_none zero = refl
take_none (suc n) = refl

take_some : (n : ℕ) (l : List ℕ) → 0 < n → take n l ≡ [] → l ≡ []
take_some zero l some e = absurd (omega (arith, some))
take_some (suc n) [] some e = refl
take_some (suc n) (x ∷ xs) some e = absurd cc

take_piece : (n : ℕ) (l p : List ℕ) → take n l ++ take (n - length (take n l)) p ≡ take n (l ++ p)
take_piece zero l p = let none : zero - length (take zero l) ≡ zero = omega arith in ap (λ (k : ℕ). take k p) none
take_piece (suc n) [] p = let all : suc n - zero ≡ suc n = omega arith in ap (λ (k : ℕ). take k p) all
take_piece (suc n) (x ∷ xs) p =
    let less : suc n - suc (length (take n xs)) ≡ n - length (take n xs) = omega arith in
    ap (λ (l : List ℕ). x ∷ l) (ap (λ (k : ℕ). take n xs ++ take k p) less ∙ take_piece n xs p)

-- what is looked at of a line is nothing if there is no line
seen_none : (line : List ℕ) → seen line ≡ [] → line ≡ []
seen_none line e = take_some LINE_BYTES line (omega arith) e

seen_piece : (line looked piece : List ℕ) → looked ≡ seen line → looked ++ take (LINE_BYTES - length looked) piece ≡ seen (line ++ piece)
seen_piece line looked piece same = ap (λ (l : List ℕ). l ++ take (LINE_BYTES - length l) piece) same ∙ take_piece LINE_BYTES line piece

-- ---- the report of a line whose refusal no run gets

all_parts : (t x d c w l : List ℕ) → ((((t ++ x) ++ d) ++ c) ++ w) ++ l ≡ t ++ (x ++ (d ++ (c ++ (w ++ l))))
all_parts t x d c w l =
    append_assoc (((t ++ x) ++ d) ++ c) w l
    ∙ (append_assoc ((t ++ x) ++ d) c (w ++ l) ∙ (append_assoc (t ++ x) d (c ++ (w ++ l)) ∙ append_assoc t x (d ++ (c ++ (w ++ l)))))

pub refusal_is : (told a b d e f : List ℕ) (n : ℕ) (why : Refusal) → a ≡ told ++ codes "ttrun: line " → b ≡ a ++ decimal n → d ≡ b ++ codes ": " → e ≡ d ++ why_text why → f ≡ e ++ 10 ∷ [] → f ≡ told ++ refused_line_text n why
refusal_is told a b d e f n why one two three four five =
    five ∙ (ap (λ (l : List ℕ). l ++ 10 ∷ []) (four ∙ ap (λ (l : List ℕ). l ++ why_text why) (three ∙ ap (λ (l : List ℕ). l ++ codes ": ") (two ∙ ap (λ (l : List ℕ). l ++ decimal n) one)))
    ∙ all_parts told (codes "ttrun: line ") (decimal n) (codes ": ") (why_text why) (10 ∷ []))

-- ---- one line

abbrev pub sent : List ℕ → Bool → Result Order (Refusal × Option Run) → Sent
sent line ended came = record { bytes = line; ended = ended; came = came }

-- the report of the line of this number, of which this came
abbrev lost_text : ℕ → Result Order (Refusal × Option Run) → List ℕ
lost_text n came = option_map_or (λ r. if is_some r.1 then [] else refused_line_text n r.0) (result_err came) []

-- one more line, of which this came
more : (ended : Bool) (line : List ℕ) (lines : List Sent) (s t : ServiceState) (v w : Serving) (came : Result Order (Refusal × Option Run)) (before out written before' told told' : List ℕ) → IsAtLine line lines s v before out before' told →
    Comes came ended (seen line) s t → StandsAs w.server t before written → w.lines ≡ v.lines + 1 → w.refused ≡ (is_err came || v.refused) → told' ≡ told ++ lost_text (length lines + 1) came →
    Counts w (sent line ended came ∷ lines) t before written before' told'
more ended line lines s t v w came before out written before' told told' at_ comes stands many refuses tells = record {
  served = (s, at_.counts.served, at_.all, at_.last_is, comes);
  stands = stands;
  tells = appended before' told told' (lines_messages lines) _ _ at_.counts.tells tells refl;
  many = many ∙ ap (λ (n : ℕ). n + 1) at_.counts.many ∙ one_longer lines;
  refused = refuses ∙ ap (λ (t : Bool). is_err came || t) at_.counts.refused;
}
  where
    one_longer : (lines : List Sent) → length lines + 1 ≡ length (sent line ended came ∷ lines)
    one_longer lines = omega arith

pub done_more : (ended : Bool) (v w : Serving) (server : Server) (looked out written told : List ℕ) → TriesLine ended looked None v.server server out written → looked ≡ v.line.items → w.server ≡ server → w.lines ≡ v.lines + 1 → w.refused ≡ v.refused →
    Serves ended v w out written told told
done_more ended v w server looked out written told tries same is many refuses line lines s before before' at_ =
    let so = tries s before at_.counts.stands in
    let kept : looked ≡ seen line = same ∙ at_.kept in
    let asks : IsOrderOf ended (seen line) so.0 = subst (λ (l : List ℕ). IsOrderOf ended l so.0) kept so.2 in (
      Ok so.0,
      so.1,
      more ended line lines s so.1 v w (Ok so.0) before out written before' told told at_ (asks, so.3)
          (subst (λ (x : Server). StandsAs x so.1 before written) (sym is) so.4) many refuses (sym (append-nil told)),
    )

module _ (ended : Bool) (v : Serving) (server server' : Server) (looked out mid : List ℕ) (why : Refusal) (tries : TriesLine ended looked (Some why) v.server server out mid) (same : looked ≡ v.line.items) where
  pub refused_more : (w : Serving) (written told : List ℕ) → TellsRun looked why true server server' mid written → w.server ≡ server' → w.lines ≡ v.lines + 1 → w.refused ≡ true → Serves ended v w out written told told
  refused_more w written told tells is many refuses line lines s before before' at_ =
      let none = tries s before at_.counts.stands in
      let so = tells s before none.1 in
      let kept : looked ≡ seen line = same ∙ at_.kept in
      let of_run : IsOf (seen line) so.0.0 = subst (λ (l : List ℕ). IsOf l so.0.0) kept so.2 in
      let nothing_asked : Refuses why ended (seen line) s = subst (λ (l : List ℕ). Refuses why ended l s) kept none.0 in (
        Err (why, Some so.0),
        so.1,
        more ended line lines s so.1 v w (Err (why, Some so.0)) before out written before' told told at_ (nothing_asked, of_run, so.3)
            (subst (λ (x : Server). StandsAs x so.1 before written) (sym is) so.4) many refuses (sym (append-nil told)),
      )

  pub lost_more : (w : Serving) (written told told' : List ℕ) (number : ℕ) → TellsRun looked why false server server' mid written → ((s : ServiceState) (before out : List ℕ) → StandsAs server s before out → true ≡ is_some s.current) →
      w.server ≡ server' → number ≡ v.lines + 1 → w.lines ≡ number → w.refused ≡ true → told' ≡ told ++ refused_line_text number why → Serves ended v w out written told told'
  lost_more w written told told' number tells some_open is next many refuses reports line lines s before before' at_ =
      let none = tries s before at_.counts.stands in
      let so = tells s before none.1 in
      let kept : looked ≡ seen line = same ∙ at_.kept in
      let nobodys : IsNobodys (seen line) why s = subst (λ (l : List ℕ). IsNobodys l why s) kept so.0 in
      let nothing_asked : Refuses why ended (seen line) s = subst (λ (l : List ℕ). Refuses why ended l s) kept none.0 in (
        Err (why, None),
        s,
        more ended line lines s s v w (Err (why, None)) before out written before' told told' at_ (nothing_asked, nobodys, sym (some_open s before mid none.1), refl)
            (subst (λ (x : Server). StandsAs x s before written) (sym is) so.1) (many ∙ next) refuses (reports ∙ ap (λ (n : ℕ). told ++ refused_line_text n why) (next ∙ ap (λ (n : ℕ). n + 1) at_.counts.many)),
      )

  pub bad_line : (number : ℕ) (told : List ℕ) → ((s : ServiceState) (before out : List ℕ) → StandsAs server s before out → false ≡ is_some s.current) → number ≡ v.lines + 1 → Fails ended v out told (ServeFault.Line number why)
  bad_line number told closed next line lines s before before' at_ =
      let none = tries s before at_.counts.stands in
      (next ∙ ap (λ (n : ℕ). n + 1) at_.counts.many, sym (closed s before mid none.1), subst (λ (l : List ℕ). Refuses why ended l s) (same ∙ at_.kept) none.0)

-- ---- what is fed

abbrev pub at_line : (bytes before out before' told : List ℕ) (v : Serving) (fed : IsFed bytes v before out before' told) → IsAtLine fed.last fed.lines fed.stand v before out before' told
at_line bytes before out before' told v fed = record { all = fed.all; last_is = fed.last_is; kept = fed.kept; counts = fed.counts }

-- the bytes of a line more
one_line : (bytes line : List ℕ) (lines : List Sent) (c : Result Order (Refusal × Option Run)) → bytes ≡ bytes_of lines ++ line → bytes ++ 10 ∷ [] ≡ bytes_of (sent line true c ∷ lines) ++ []
one_line bytes line lines c parts =
    ap (λ (l : List ℕ). l ++ 10 ∷ []) parts ∙ (append_assoc (bytes_of lines) line (10 ∷ []) ∙ sym (append-nil (bytes_of (sent line true c ∷ lines))))

pub fed_line : (bytes : List ℕ) (v w x : Serving) (before out written before' told told' : List ℕ) → IsFed bytes v before out before' told → Serves true v w out written told told' → x.server ≡ w.server → x.lines ≡ w.lines → x.refused ≡ w.refused →
    x.line.items ≡ [] → IsFed (bytes ++ 10 ∷ []) x before written before' told'
fed_line bytes v w x before out written before' told told' fed serves server lines refuses empty =
    let so = serves fed.last fed.lines fed.stand before before' (at_line bytes before out before' told v fed) in
    record {
      lines = sent fed.last true so.0 ∷ fed.lines;
      stand = so.1;
      last = [];
      parts = one_line bytes fed.last fed.lines so.0 fed.parts;
      all = fed.all;
      last_is = tt;
      kept = empty ∙ sym (take_none LINE_BYTES);
      counts = record {
        served = so.2.served;
        stands = subst (λ (y : Server). StandsAs y so.1 before written) (sym server) so.2.stands;
        tells = so.2.tells;
        many = lines ∙ so.2.many;
        refused = refuses ∙ so.2.refused;
      };
    }

-- more bytes of a line
pub fed_piece : (bytes piece : List ℕ) (v w : Serving) (before out before' told : List ℕ) → IsFed bytes v before out before' told → NoLf piece → w.line.items ≡ v.line.items ++ take (LINE_BYTES - length v.line.items) piece → w ≡ record v { line = w.line } →
    IsFed (bytes ++ piece) w before out before' told
fed_piece bytes piece v w before out before' told fed plain kept same = record {
  lines = fed.lines;
  stand = fed.stand;
  last = fed.last ++ piece;
  parts = ap (λ (l : List ℕ). l ++ piece) fed.parts ∙ append_assoc (bytes_of fed.lines) fed.last piece;
  all = fed.all;
  last_is = no_lf_both fed.last piece fed.last_is plain;
  kept = kept ∙ seen_piece fed.last v.line.items piece fed.kept;
  counts = record {
    served = fed.counts.served;
    stands = subst (λ (y : Server). StandsAs y fed.stand before out) (sym (ap (λ (x : Serving). x.server) same)) fed.counts.stands;
    tells = fed.counts.tells;
    many = ap (λ (x : Serving). x.lines) same ∙ fed.counts.many;
    refused = ap (λ (x : Serving). x.refused) same ∙ fed.counts.refused;
  };
}

-- ---- what stops it

-- each line has its LF
long_lines : (lines : List Sent) → list_all (λ l. l.ended) lines ≡ true → length lines ≤ length (bytes_of lines)
long_lines [] all = omega arith
long_lines (l ∷ before) all = by_end l.ended refl (long_lines before (and_right l.ended _ all))
  where
    by_end : (t : Bool) → l.ended ≡ t → length before ≤ length (bytes_of before) → length (l ∷ before) ≤ length (bytes_of (l ∷ before))
    by_end false is so = absurd (let e : false ≡ true = sym is ∙ and_left l.ended (list_all (λ x. x.ended) before) all in cc)
    by_end true is so = subst (λ (t : Bool). length (l ∷ before) ≤ length (bytes_of before ++ (l.bytes ++ (if t then 10 ∷ [] else [])))) (sym is)
        (omega (arith, so, length-append (bytes_of before) (l.bytes ++ 10 ∷ []), length-append l.bytes (10 ∷ [])))

pub why_line : (f : ServeFault) (line behind : List ℕ) (lines : List Sent) (s : ServiceState) (input : Option (List ℕ)) → list_all (λ l. l.ended) lines ≡ true → NoLf line → IsBadLine f true line lines s → IsWhy f lines s (line ++ 10 ∷ behind) input
why_line (ServeFault.Line n why) line behind lines s input all plain bad = (bad.0, bad.1, line, behind, plain, inl (refl, bad.2))
why_line ServeFault.TooLong line behind lines s input all plain bad = omega (arith, bad, long_lines lines all, length-append (bytes_of lines) (line ++ 10 ∷ behind))
why_line ServeFault.NoMemory line behind lines s input all plain bad = tt
why_line _ line behind lines s input all plain bad = absurd bad

-- nothing more was appended, and the rest was not served
pub stops_here : (read rest bytes : List ℕ) (v : Serving) (before out written before' told told' : List ℕ) (input : Option (List ℕ)) (f : ServeFault) → (fed : IsFed bytes v before out before' told) → read ≡ bytes_of fed.lines ++ rest →
    IsWhy f fed.lines fed.stand rest input → written ≡ out → told' ≡ told → HasEnded read input (before ++ written) (before' ++ told') (Err f)
stops_here read rest bytes v before out written before' told told' input f fed parts why same same_told =
    stopped fed.lines fed.stand rest f fed.counts.served parts (inl fed.all) why (ap (λ (l : List ℕ). before ++ l) same ∙ fed.counts.stands.text) (ap (λ (l : List ℕ). before' ++ l) same_told ∙ fed.counts.tells)

pub stops_line : (bytes behind : List ℕ) (v : Serving) (before out written before' told told' : List ℕ) (input : Option (List ℕ)) (f : ServeFault) → IsFed bytes v before out before' told → Fails true v out told f → written ≡ out → told' ≡ told →
    HasEnded (bytes ++ 10 ∷ behind) input (before ++ written) (before' ++ told') (Err f)
stops_line bytes behind v before out written before' told told' input f fed fails same same_told =
    stops_here (bytes ++ 10 ∷ behind) (fed.last ++ 10 ∷ behind) bytes v before out written before' told told' input f fed
    (ap (λ (l : List ℕ). l ++ 10 ∷ behind) fed.parts ∙ append_assoc (bytes_of fed.lines) fed.last (10 ∷ behind))
    (why_line f fed.last behind fed.lines fed.stand input fed.all fed.last_is (fails fed.last fed.lines fed.stand before before' (at_line bytes before out before' told v fed))) same same_told

pub stops_bytes : (bytes : List ℕ) (v : Serving) (out told : List ℕ) → StopsIn bytes v out out told told ServeFault.NoMemory
stops_bytes bytes v out told read before before' input fed =
    stops_here (read ++ bytes) (fed.last ++ bytes) read v before out out before' told told input ServeFault.NoMemory fed (ap (λ (l : List ℕ). l ++ bytes) fed.parts ∙ append_assoc (bytes_of fed.lines) fed.last bytes) tt refl refl

-- ---- pieces

-- a piece that no LF ends
pub takes_all : (bytes piece rest : List ℕ) (v w : Serving) (out told : List ℕ) → bytes ≢ [] → bytes ≡ piece ++ rest → rest ≡ [] → Feeds piece v w out out told told → TakesPiece bytes rest v w out out told told
takes_all bytes piece rest v w out told some parts none fed = record { piece = piece; parts = parts; less = rw none (some_length bytes some); fed = fed }
  where
    some_length : (l : List ℕ) → l ≢ [] → 0 < length l
    some_length [] some = absurd (some refl)
    some_length (x ∷ xs) some = omega arith

-- a piece that LF ends
module _ (bytes piece rest : List ℕ) (b : ℕ) (behind : List ℕ) (v w : Serving) (out told : List ℕ) (parts : bytes ≡ piece ++ rest) (ends : rest ≡ b ∷ behind) (is_lf : b ≡ 10) (fed : Feeds piece v w out out told told) where
  whole : bytes ≡ piece ++ 10 ∷ behind
  whole = parts ∙ ap (λ (l : List ℕ). piece ++ l) (ends ∙ ap (λ (k : ℕ). k ∷ behind) is_lf)

  pub takes_line : (x : Serving) (written told' : List ℕ) → ((bytes before before' : List ℕ) → IsFed bytes w before out before' told → IsFed (bytes ++ 10 ∷ []) x before written before' told') → TakesPiece bytes behind v x out written told told'
  takes_line x written told' ended = record {
    piece = piece ++ 10 ∷ [];
    parts = whole ∙ sym (append_assoc piece (10 ∷ []) behind);
    less = let longer = ap length whole in omega (arith, longer, length-append piece (10 ∷ behind));
    fed = λ read before before' was. subst (λ (l : List ℕ). IsFed l x before written before' told') (append_assoc read piece (10 ∷ [])) (ended (read ++ piece) before before' (fed read before before' was));
  }

  pub stops_at_line : (written told' : List ℕ) (f : ServeFault) →
      ((bytes more before before' : List ℕ) (input : Option (List ℕ)) → IsFed bytes w before out before' told → HasEnded (bytes ++ 10 ∷ more) input (before ++ written) (before' ++ told') (Err f)) → StopsIn bytes v out written told told' f
  stops_at_line written told' f stops read before before' input was =
      subst (λ (l : List ℕ). HasEnded l input (before ++ written) (before' ++ told') (Err f)) (append_assoc read piece (10 ∷ behind) ∙ ap (λ (l : List ℕ). read ++ l) (sym whole)) (stops (read ++ piece) behind before before' input (fed read before before' was))

-- these bytes were taken, except the rest
pub record IsTakenTo (bytes rest : List ℕ) (v w : Serving) (out written told told' : List ℕ) : Type 0 where
  pub before : List ℕ
  pub parts : bytes ≡ before ++ rest
  pub fed : Feeds before v w out written told told'

pub taken_none : (bytes : List ℕ) (v : Serving) (out told : List ℕ) → IsTakenTo bytes bytes v v out out told told
taken_none bytes v out told = record { before = []; parts = refl; fed = λ read before before' fed. subst (λ (l : List ℕ). IsFed l v before out before' told) (sym (append-nil read)) fed }

pub taken_more : (bytes rest behind : List ℕ) (v w x : Serving) (out mid written told said told' : List ℕ) → IsTakenTo bytes rest v w out mid told said → TakesPiece rest behind w x mid written said told' → IsTakenTo bytes behind v x out written told told'
taken_more bytes rest behind v w x out mid written told said told' so one = record {
  before = so.before ++ one.piece;
  parts = so.parts ∙ (ap (λ (l : List ℕ). so.before ++ l) one.parts ∙ sym (append_assoc so.before one.piece behind));
  fed = λ read before before' fed. subst (λ (l : List ℕ). IsFed l x before written before' told') (append_assoc read so.before one.piece) (one.fed (read ++ so.before) before before' (so.fed read before before' fed));
}

pub taken_all : (bytes rest : List ℕ) (v w : Serving) (out written told told' : List ℕ) → IsTakenTo bytes rest v w out written told told' → rest ≡ [] → Feeds bytes v w out written told told'
taken_all bytes rest v w out written told told' so none = subst (λ (l : List ℕ). Feeds l v w out written told told') (sym (so.parts ∙ (ap (λ (l : List ℕ). so.before ++ l) none ∙ append-nil so.before))) so.fed

pub taken_bad : (bytes rest : List ℕ) (v w : Serving) (out mid written told said told' : List ℕ) (f : ServeFault) → IsTakenTo bytes rest v w out mid told said → StopsIn rest w mid written said told' f → StopsIn bytes v out written told told' f
taken_bad bytes rest v w out mid written told said told' f so stops read before before' input fed =
    subst (λ (l : List ℕ). HasEnded l input (before ++ written) (before' ++ told') (Err f)) (append_assoc read so.before rest ∙ ap (λ (l : List ℕ). read ++ l) (sym so.parts)) (stops (read ++ so.before) before before' input (so.fed read before before' fed))

-- ---- the end

-- what comes of a server whose input has ended
pub closes : (v w : Serving) (server : Server) (why : Option Refusal) (some_open : Bool) (out written told told' : List ℕ) → Tries (λ s. after_order s Order.End) why v.server server out written → w.server ≡ server →
    ((s : ServiceState) (before out : List ℕ) → StandsAs v.server s before out → some_open ≡ is_some s.current) → told' ≡ told ++ end_told some_open → Closes v w out written told told'
closes v w server why some_open out written told told' tries is opens reports lines s before before' counts = (
  subst (λ (x : Server). StandsAs x (finished_state s) before written) (sym is) (by_taken (after_order s Order.End) (tries s before counts.stands)),
  appended before' told told' (lines_messages lines) _ _ counts.tells (reports ∙ ap (λ (t : Bool). told ++ end_told t) (opens s before out counts.stands)) refl,
)
  where
    by_taken : (r : Result ServiceState Refusal) → MatchResult r (λ t. (why ≡ None) × StandsAs server t before written) (λ e. (why ≡ Some e) × StandsAs server s before written) → StandsAs server (result_unwrap_or r s) before written
    by_taken (Ok t) so = so.1
    by_taken (Err e) so = so.1

-- no last line
pub ends_none : (bytes before before' : List ℕ) (v : Serving) (out told : List ℕ) → IsFed bytes v before out before' told → v.line.items ≡ [] → IsEnd bytes v before out before' told
ends_none bytes before before' v out told fed empty = record {
  lines = fed.lines;
  stand = fed.stand;
  parts = fed.parts ∙ (ap (λ (l : List ℕ). bytes_of fed.lines ++ l) (seen_none fed.last (sym fed.kept ∙ empty)) ∙ append-nil (bytes_of fed.lines));
  counts = fed.counts;
}

-- a last line
pub ends_some : (bytes before before' : List ℕ) (v w : Serving) (out written told told' : List ℕ) → IsFed bytes v before out before' told → Serves false v w out written told told' → IsEnd bytes w before written before' told'
ends_some bytes before before' v w out written told told' fed serves =
    let one = serves fed.last fed.lines fed.stand before before' (at_line bytes before out before' told v fed) in
    record {
      lines = sent fed.last false one.0 ∷ fed.lines;
      stand = one.1;
      parts = fed.parts ∙ ap (λ (l : List ℕ). bytes_of fed.lines ++ l) (sym (append-nil fed.last));
      counts = one.2;
    }

some_seen : (line looked : List ℕ) → looked ≡ seen line → looked ≢ [] → line ≢ []
some_seen line looked same some = λ none. some (same ∙ (ap seen none ∙ take_none LINE_BYTES))

why_last : (f : ServeFault) (line : List ℕ) (lines : List Sent) (s : ServiceState) (input : Option (List ℕ)) → IsAtEnd input → list_all (λ l. l.ended) lines ≡ true → NoLf line → line ≢ [] → IsBadLine f false line lines s → IsWhy f lines s line input
why_last (ServeFault.Line n why) line lines s input end all plain some bad = (bad.0, bad.1, line, [], plain, inr (refl, some, end, bad.2))
why_last ServeFault.TooLong line lines s input end all plain some bad = omega (arith, bad, long_lines lines all, length-append (bytes_of lines) line)
why_last ServeFault.NoMemory line lines s input end all plain some bad = tt
why_last _ line lines s input end all plain some bad = absurd bad

pub stops_last : (bytes before before' : List ℕ) (v : Serving) (out written told told' : List ℕ) (input : Option (List ℕ)) (f : ServeFault) → IsAtEnd input → IsFed bytes v before out before' told → v.line.items ≢ [] → Fails false v out told f → written ≡ out → told' ≡ told →
    HasEnded bytes input (before ++ written) (before' ++ told') (Err f)
stops_last bytes before before' v out written told told' input f end fed some fails same same_told =
    stops_here bytes fed.last bytes v before out written before' told told' input f fed fed.parts
    (why_last f fed.last fed.lines fed.stand input end fed.all fed.last_is (some_seen fed.last v.line.items fed.kept some) (fails fed.last fed.lines fed.stand before before' (at_line bytes before out before' told v fed))) same same_told

-- what ends the service so, if it ends with a fault
pub ends_so : {A : Type 0} (r : Result A ServeFault) (P Q : ServeFault → Type 0) (B C : Type 0) → ((f : ServeFault) → P f → B → C → Q f) → IfErr r P → OnErr r B → OnErr r C → IfErr r Q
ends_so (Ok x) P Q B C so is b c = tt
ends_so (Err f) P Q B C so is b c = so f is b c

-- the test case that is open is closed
pub finishes : (bytes before before' : List ℕ) (v w : Serving) (out written told told' : List ℕ) (input : Option (List ℕ)) (r : Served) → IsAtEnd input → IsEnd bytes v before out before' told → Closes v w out written told told' → w.refused ≡ v.refused →
    ((s : ServiceState) (before out : List ℕ) → StandsAs w.server s before out → r.worst ≡ worst_case s) → r.refused ≡ w.refused → HasEnded bytes input (before ++ written) (before' ++ told') (Ok r)
finishes bytes before before' v w out written told told' input r end at_end closes same worst refuses =
    let so = closes at_end.lines at_end.stand before before' at_end.counts in
    served at_end.lines at_end.stand r at_end.counts.served at_end.parts end (worst (finished_state at_end.stand) before written so.0) (refuses ∙ (same ∙ at_end.counts.refused)) so.0.text so.1

-- memory runs out as it is closed
pub stops_close : (bytes before before' : List ℕ) (v : Serving) (out written told told' : List ℕ) (input : Option (List ℕ)) → IsAtEnd input → IsEnd bytes v before out before' told → written ≡ out → told' ≡ told →
    HasEnded bytes input (before ++ written) (before' ++ told') (Err ServeFault.NoMemory)
stops_close bytes before before' v out written told told' input end at_end same same_told =
    stopped at_end.lines at_end.stand [] ServeFault.NoMemory at_end.counts.served (at_end.parts ∙ sym (append-nil (bytes_of at_end.lines))) (inr (refl, end)) tt
    (ap (λ (l : List ℕ). before ++ l) same ∙ at_end.counts.stands.text) (ap (λ (l : List ℕ). before' ++ l) same_told ∙ at_end.counts.tells)

-- ---- bytes

prefix_behind : (a b c : Option (List ℕ)) (x y : List ℕ) → Appends a b x → AppendsPrefix b c y → AppendsPrefix a c (x ++ y)
prefix_behind a b c x y p q =
    (length x + q.0, omega (arith, q.1, length-append x y), rw (take-append-add x y q.0) (Appends-trans a b c x (take q.0 y) p q.2))

prefix_longer : (a b : Option (List ℕ)) (x y : List ℕ) → AppendsPrefix a b x → AppendsPrefix a b (x ++ y)
prefix_longer a b x y p = (p.0, omega (arith, p.1, length-append x y), rw (take-append-le p.0 x y p.1) p.2)

-- ---- reports

told_join : (heard told : Bool) (a b c : Option (List ℕ)) (x y : List ℕ) → IsTaken heard a b x → Hears heard told b c y → IsTaken told a c (x ++ y)
told_join true true a b c x y p q = Appends-trans a b c x y p q
told_join true false a b c x y p q = prefix_behind a b c x y p q
told_join false true a b c x y p q = absurd (let e = q.0 in cc)
told_join false false a b c x y p q = prefix_longer a c x y (subst (λ (o : Option (List ℕ)). AppendsPrefix a o x) (sym q.1) p)

-- ---- where the service is

-- what was written before, and is appended, is written
fed_again : (bytes : List ℕ) (v : Serving) (before out before' told : List ℕ) → IsFed bytes v before out before' told → IsFed bytes v (before ++ out) [] (before' ++ told) []
fed_again bytes v before out before' told fed = record {
  lines = fed.lines;
  stand = fed.stand;
  last = fed.last;
  parts = fed.parts;
  all = fed.all;
  last_is = fed.last_is;
  kept = fed.kept;
  counts = record {
    served = fed.counts.served;
    stands = record { current = fed.counts.stands.current; worst = fed.counts.stands.worst; text = append-nil (before ++ out) ∙ fed.counts.stands.text };
    tells = append-nil (before' ++ told) ∙ fed.counts.tells;
    many = fed.counts.many;
    refused = fed.counts.refused;
  };
}

abbrev ending : Result Served ServeFault → Bool → Ending
ending outcome told = record { outcome = outcome; told = told }

module _ (input left output output' errors errors' : Option (List ℕ)) (told : Bool) (turns : ℕ) (v : Serving) (at_ : IsAt input left output output' errors errors' told turns v) where
  -- no more is read
  stopped_at : (rest : Option (List ℕ)) (f : ServeFault) → Consumes input rest at_.bytes → IsWhy f at_.fed.lines at_.fed.stand at_.fed.last rest → IsServiceEnd input rest output output' errors errors' (ending (Err f) told)
  stopped_at rest f read why = record {
    bytes = at_.bytes;
    text = at_.before ++ [];
    reports = at_.before' ++ [];
    due = Err f;
    read = read;
    ended = stops_here at_.bytes at_.fed.last at_.bytes v at_.before [] [] at_.before' [] [] rest f at_.fed at_.fed.parts why refl refl;
    written = inl (refl, subst (λ (l : List ℕ). Appends output output' l) (sym (append-nil at_.before)) at_.written);
    reported = subst (λ (l : List ℕ). IsTaken told errors errors' l) (sym (append-nil at_.before')) at_.told_is;
  }

  pub uncounted : 2 ^ 64 - 1 ≤ turns → IsServiceEnd input left output output' errors errors' (ending (Err ServeFault.TooLong) told)
  uncounted most = stopped_at left ServeFault.TooLong at_.read (subst (λ (l : List ℕ). 2 ^ 64 - 1 ≤ length l) at_.fed.parts (omega (arith, most, at_.many)))

  pub unread : (rest : Option (List ℕ)) → Keeps left rest → IsServiceEnd input rest output output' errors errors' (ending (Err ServeFault.Read) told)
  unread rest kept = stopped_at rest ServeFault.Read (Consumes-kept input left rest at_.bytes at_.read kept) at_.fed.last_is

module _ (input left rest printed output output' reported errors errors' : Option (List ℕ)) (heard told : Bool) (turns : ℕ) (v w : Serving) (chunk out said : List ℕ) (at_ : IsAt input left printed output reported errors heard turns v) (read : Consumes left rest chunk)
    (hears : Hears heard told errors errors' said) where
  all_read : Consumes input rest (at_.bytes ++ chunk)
  all_read = Consumes-trans input left rest at_.bytes chunk at_.read read

  reports : IsTaken told reported errors' (at_.before' ++ said)
  reports = told_join heard told reported errors errors' at_.before' said at_.told_is hears

  written_whole : Appends output output' out → Appends printed output' (at_.before ++ out)
  written_whole wrote = Appends-trans printed output output' at_.before out at_.written wrote

  -- this was due, and that came of it
  ends : (due o : Result Served ServeFault) → HasEnded (at_.bytes ++ chunk) rest (at_.before ++ out) (at_.before' ++ said) due →
      ((o ≡ due) × Appends printed output' (at_.before ++ out)) ⊎ ((o ≡ Err ServeFault.Write) × AppendsPrefix printed output' (at_.before ++ out)) → IsServiceEnd input rest printed output' reported errors' (ending o told)
  ends due o so written =
      record { bytes = at_.bytes ++ chunk; text = at_.before ++ out; reports = at_.before' ++ said; due = due; read = all_read; ended = so; written = written; reported = reports }

  fails : (due : Result Served ServeFault) → HasEnded (at_.bytes ++ chunk) rest (at_.before ++ out) (at_.before' ++ said) due → AppendsPrefix output output' out → IsServiceEnd input rest printed output' reported errors' (ending (Err ServeFault.Write) told)
  fails due so wrote = ends due (Err ServeFault.Write) so (inr (refl, prefix_behind printed output output' at_.before out at_.written wrote))

  -- what the texts of the turn say
  abbrev IsDue : Result (Option Served) ServeFault → Type 0
  IsDue result =
      IsTurn ((0 < length chunk) × IsFed (at_.bytes ++ chunk) w at_.before out at_.before' said) (HasEnded (at_.bytes ++ chunk) rest (at_.before ++ out) (at_.before' ++ said)) result

  -- they were written
  pub written : (result : Result (Option Served) ServeFault) → IsDue result → Appends output output' out →
      IsTurn (IsAt input rest printed output' reported errors' told (turns + 1) w) (λ o. IsServiceEnd input rest printed output' reported errors' (ending o told)) result
  written (Ok None) so wrote = record {
    bytes = at_.bytes ++ chunk;
    read = all_read;
    many = omega (arith, so.0, at_.many, length-append at_.bytes chunk);
    before = at_.before ++ out;
    before' = at_.before' ++ said;
    fed = fed_again _ w at_.before out at_.before' said so.1;
    written = written_whole wrote;
    told_is = reports;
  }
  written (Ok (Some r)) so wrote = ends (Ok r) (Ok r) so (inl (refl, written_whole wrote))
  written (Err f) so wrote = ends (Err f) (Err f) so (inl (refl, written_whole wrote))

  -- the output failed
  pub unwritten : (result : Result (Option Served) ServeFault) → IsDue result → AppendsPrefix output output' out → IsServiceEnd input rest printed output' reported errors' (ending (Err ServeFault.Write) told)
  unwritten (Ok None) so wrote = let fed = so.1 in fails (Err ServeFault.Write) (stops_here (at_.bytes ++ chunk) fed.last _ w at_.before out out at_.before' said said rest ServeFault.Write fed fed.parts tt refl refl) wrote
  unwritten (Ok (Some r)) so wrote = fails (Ok r) so wrote
  unwritten (Err f) so wrote = fails (Err f) so wrote

-- ---- faults of devices

-- a fault that is no device's is not this one of a device
pub is_no_device : (r : Result (Option Served) ServeFault) (f : ServeFault) (failed : Bool) → IfErr r IsOwn → (IsOwn f → ⊥) → failed ≡ false → (r ≡ Err f) ↔ (failed ≡ true)
is_no_device r f failed own other is = (λ e. absurd (other (subst (λ (x : Result (Option Served) ServeFault). IfErr x IsOwn) e own)), λ t. absurd (let both : false ≡ true = sym is ∙ t in cc))
