-- Texts that come as bytes, part by part.
use Rattle.std.{proofs.{Common.{ℕ, Bool, true, false, ◌≡◌, ◌≢◌, ◌==◌, ◌∙◌, ◌+◌, ◌-◌, ◌<◌, ◌≤◌, if◌then◌else◌, Option, None, Some, Result, Ok, Err, IfOk, IfErr, IfSome, List, [], ◌∷◌, ◌++◌, length, take, drop, slice_index, ap, sym, subst, refl, append_assoc, arith}, lemmas.List.{append-nil, length-append, take-append-drop, take_more, take-take}, Math.Seq.take-append_seam}, specs.{Io.{KnownBytes.{Consumes, IsAtEnd}, StartsWith}, List.onto_first}}
use Rattle.tc_text.{specs.{declared.fault.TextFault.TextFault, Prelude.lines_of}, proofs.Lemmas.LinesOf.no_line}
use Rattle.tc_blocks.{specs.{Inside.{GoesOn, IsFirst, IsKnown, IsPending, IsConsumed, IsFitSoFar, IsReadBy, IsReadInto, IsWholeOf, Refuses, RefusesPart, TakesPart, blocks_fit, most_of}, Limit.{IsInLimit, IsReadIn}, Text.{IsFault, IsHeader, IsTextOf}, declared.{block.Block.Block, header.Header.Header, limit.{Extent.Extent, Limit.Limit, OpenBytes.OpenBytes}, line.Line.Line, reading.Reading.Reading}}, proofs.PartByPart.{as_first, fault_only, on_whole}}

-- ---- whole lines

onto_more : (b : ℕ) (ls others : List (List ℕ)) → ls ≢ [] → onto_first b (ls ++ others) ≡ onto_first b ls ++ others
onto_more b [] others some = absurd (some refl)
onto_more b (l ∷ ls) others some = refl

ends_some : (xs : List ℕ) → lines_of (xs ++ 10 ∷ []) ≢ []
ends_some [] = λ e. let nothing = no_line (10 ∷ []) e in absurd cc
ends_some (x ∷ xs) = λ e. let nothing = no_line (x ∷ (xs ++ 10 ∷ [])) e in absurd cc

-- the lines of a text that ends with LF, and of others after it
pub closed_lf : (xs rest : List ℕ) → lines_of ((xs ++ 10 ∷ []) ++ rest) ≡ lines_of (xs ++ 10 ∷ []) ++ lines_of rest
closed_lf [] rest = refl
closed_lf (x ∷ xs) rest = by_test (closed_lf xs rest) (x == 10)
  where
    by_test : lines_of ((xs ++ 10 ∷ []) ++ rest) ≡ lines_of (xs ++ 10 ∷ []) ++ lines_of rest → (t : Bool) →
        (if t then [] ∷ lines_of ((xs ++ 10 ∷ []) ++ rest) else onto_first x (lines_of ((xs ++ 10 ∷ []) ++ rest))) ≡ (if t then [] ∷ lines_of (xs ++ 10 ∷ []) else onto_first x (lines_of (xs ++ 10 ∷ []))) ++ lines_of rest
    by_test same true = ap (λ l. [] ∷ l) same
    by_test same false = ap (onto_first x) same ∙ onto_more x (lines_of (xs ++ 10 ∷ [])) (lines_of rest) (ends_some xs)

take_ended : (xs : List ℕ) (n : ℕ) → 0 < n → n ≤ length xs → slice_index xs (n - 1) ≡ 10 → take n xs ≡ take (n - 1) xs ++ 10 ∷ []
take_ended xs n some within ended =
    let same : n - 1 + 1 ≡ n = omega (arith, some) in
    let less : n - 1 < length xs = omega (arith, some, within) in
    ap (λ k. take k xs) (sym same) ∙ (take_more xs (n - 1) 0 less ∙ ap (λ b. take (n - 1) xs ++ b ∷ []) ended)

-- ---- one part

-- the bytes are whole lines and a rest; the whole lines are closed, and have these lines
pub record IsCut (bytes whole batch rest : List ℕ) : Type 0 where
  pub parts : bytes ≡ (whole ++ batch) ++ rest
  pub closed : (others : List ℕ) → lines_of ((whole ++ batch) ++ others) ≡ lines_of (whole ++ batch) ++ lines_of others
  pub lines : lines_of (whole ++ batch) ≡ lines_of whole ++ lines_of batch

is_cut : (bytes whole unfinished part batch rest : List ℕ) (end : ℕ) → bytes ≡ whole ++ unfinished → ((others : List ℕ) → lines_of (whole ++ others) ≡ lines_of whole ++ lines_of others) → 0 < end → end ≤ length part → slice_index part (end - 1) ≡ 10 → batch ≡ unfinished ++ take end part → rest ≡ drop end part →
    IsCut (bytes ++ part) whole batch rest
is_cut bytes whole unfinished part batch rest end parts closed some within ended batch_is rest_is = record {
  parts = ap (λ x. x ++ part) parts
      ∙ (append_assoc whole unfinished part
      ∙ (ap (λ x. whole ++ (unfinished ++ x)) (sym (take-append-drop end part))
      ∙ (ap (λ x. whole ++ x) (sym (append_assoc unfinished (take end part) (drop end part)))
      ∙ (sym (append_assoc whole (unfinished ++ take end part) (drop end part)) ∙ (ap (λ x. (whole ++ x) ++ drop end part) (sym batch_is) ∙ ap (λ x. (whole ++ batch) ++ x) (sym rest_is))))));
  closed = λ others. ap (λ x. lines_of (x ++ others)) lf ∙ (closed_lf front others ∙ ap (λ x. lines_of x ++ lines_of others) (sym lf));
  lines = closed batch;
}
  where
    front : List ℕ
    front = whole ++ (unfinished ++ take (end - 1) part)

    lf : whole ++ batch ≡ front ++ 10 ∷ []
    lf = ap (λ x. whole ++ x) (batch_is ∙ (ap (λ x. unfinished ++ x) (take_ended part end some within ended) ∙ sym (append_assoc unfinished (take (end - 1) part) (10 ∷ []))))
        ∙ sym (append_assoc whole (unfinished ++ take (end - 1) part) (10 ∷ []))

pub part_taken : {H O : Type 0} (stands : List Block → H → Type 0) (opens : ℕ → Header → List Line → O → Type 0) (reading after : Reading H O) (unfinished part batch rest : List ℕ) (end : ℕ) → 0 < end → end ≤ length part → slice_index part (end - 1) ≡ 10 → batch ≡ unfinished ++ take end part → rest ≡ drop end part →
    GoesOn stands opens reading batch after [] → TakesPart stands opens reading unfinished part after rest
part_taken {H} {O} stands opens reading after unfinished part batch rest end some within ended batch_is rest_is one = record { takes = takes }
  where
    takes : (bytes : List ℕ) → IsPending stands opens bytes reading unfinished → IsPending stands opens (bytes ++ part) after rest
    takes bytes so =
        let cut = is_cut bytes so.whole unfinished part batch rest end so.parts so.closed some within ended batch_is rest_is in
        record {
          whole = so.whole ++ batch;
          parts = cut.parts;
          closed = cut.closed;
          read = as_first stands opens reading.only_histories after.only_histories (lines_of (so.whole ++ batch)) after.made after.block after.line one.same
              (subst (λ (ls : List (List ℕ)). IsReadBy stands opens ls (record { made = after.made; only_histories = reading.only_histories; block = after.block; line = after.line })) (sym cut.lines)
              (on_whole stands opens (IsFirst reading.only_histories) (lines_of so.whole) batch [] after.made after.block after.line refl (one.goes (lines_of so.whole) so.read)));
        }

pub part_refused : {H O : Type 0} (stands : List Block → H → Type 0) (opens : ℕ → Header → List Line → O → Type 0) (reading : Reading H O) (unfinished part batch rest : List ℕ) (end : ℕ) (fault : TextFault) → 0 < end → end ≤ length part → slice_index part (end - 1) ≡ 10 → batch ≡ unfinished ++ take end part → rest ≡ drop end part →
    Refuses stands opens reading batch fault → RefusesPart stands opens reading unfinished part fault
part_refused {H} {O} stands opens reading unfinished part batch rest end fault some within ended batch_is rest_is bad = record { refused = refused }
  where
    refused : (bytes : List ℕ) → IsPending stands opens bytes reading unfinished → (others : List ℕ) → IsFault (IsFirst reading.only_histories) ((bytes ++ part) ++ others) fault
    refused bytes so others =
        let cut = is_cut bytes so.whole unfinished part batch rest end so.parts so.closed some within ended batch_is rest_is in
        bad.refused (lines_of so.whole) so.read ((bytes ++ part) ++ others) (lines_of (rest ++ others))
        (ap (λ x. lines_of (x ++ others)) cut.parts ∙ (ap lines_of (append_assoc (so.whole ++ batch) rest others) ∙ (cut.closed (rest ++ others) ∙ ap (λ x. x ++ lines_of (rest ++ others)) cut.lines)))

-- ---- the end

-- the first fault of a text
text_refused : {H : Type 0} (stands : List Block → H → Type 0) (only : Bool) (text : List ℕ) (fault : TextFault) → only ≡ false → IsFault (IsFirst only) text fault → IsReadInto stands text (Err fault)
text_refused stands only text fault any bad = let first = subst (λ (o : Bool). IsFault (IsFirst o) text fault) any bad in (first, λ all is. fault_only IsHeader text fault all first is)

lines_whole : (bytes whole unfinished : List ℕ) → bytes ≡ whole ++ unfinished → ((others : List ℕ) → lines_of (whole ++ others) ≡ lines_of whole ++ lines_of others) → lines_of bytes ≡ lines_of whole ++ lines_of unfinished
lines_whole bytes whole unfinished parts closed = ap lines_of parts ∙ closed unfinished

pub end_refused : {H O : Type 0} (stands : List Block → H → Type 0) (opens : ℕ → Header → List Line → O → Type 0) (reading : Reading H O) (unfinished bytes : List ℕ) (fault : TextFault) → reading.only_histories ≡ false → IsPending stands opens bytes reading unfinished → Refuses stands opens reading unfinished fault →
    IsReadInto stands bytes (Err fault)
end_refused stands opens reading unfinished bytes fault any so bad =
    text_refused stands reading.only_histories bytes fault any
    (bad.refused (lines_of so.whole) so.read bytes [] (lines_whole bytes so.whole unfinished so.parts so.closed ∙ sym (append-nil (lines_of so.whole ++ lines_of unfinished))))

pub end_read : {H O : Type 0} (stands : List Block → H → Type 0) (opens : ℕ → Header → List Line → O → Type 0) (reading after : Reading H O) (unfinished bytes : List ℕ) → IsPending stands opens bytes reading unfinished → GoesOn stands opens reading unfinished after [] → IsReadBy stands opens (lines_of bytes) after
end_read stands opens reading after unfinished bytes so one =
    as_first stands opens reading.only_histories after.only_histories (lines_of bytes) after.made after.block after.line one.same
    (subst (λ (ls : List (List ℕ)). IsReadBy stands opens ls (record { made = after.made; only_histories = reading.only_histories; block = after.block; line = after.line })) (sym (lines_whole bytes so.whole unfinished so.parts so.closed))
    (on_whole stands opens (IsFirst reading.only_histories) (lines_of so.whole) unfinished [] after.made after.block after.line refl (one.goes (lines_of so.whole) so.read)))

pub finished : {H O : Type 0} (stands : List Block → H → Type 0) (opens : ℕ → Header → List Line → O → Type 0) (reading : Reading H O) (bytes : List ℕ) (result : Result H TextFault) → reading.only_histories ≡ false → IsReadBy stands opens (lines_of bytes) reading →
    IfOk result (λ made. (text : List ℕ) → IsReadBy stands opens (lines_of text) reading → IsWholeOf stands (IsFirst reading.only_histories) text made) →
    IfErr result (λ e. (text : List ℕ) → IsReadBy stands opens (lines_of text) reading → IsFault (IsFirst reading.only_histories) text e) → IsReadInto stands bytes result
finished stands opens reading bytes (Ok made) any so ok fault =
    let whole = ok bytes so in
    record {
      blocks = whole.blocks;
      evidence = subst (λ (o : Bool). IsTextOf (IsFirst o) bytes whole.blocks) any whole.text_is;
      holds = λ all is. whole.made_is all (subst (λ (o : Bool). IsTextOf (IsFirst o) bytes all) (sym any) is);
    }
finished stands opens reading bytes (Err e) any so ok fault = text_refused stands reading.only_histories bytes e any (fault bytes so)

-- ---- an input

pub consumes_two : (a b c : Option (List ℕ)) (xs ys : List ℕ) → Consumes a b xs → Consumes b c ys → Consumes a c (xs ++ ys)
consumes_two None b c xs ys p q = tt
consumes_two (Some x) None c xs ys p q = absurd p
consumes_two (Some x) (Some y) None xs ys p q = absurd q
consumes_two (Some x) (Some y) (Some z) xs ys p q = p ∙ (ap (λ l. xs ++ l) q ∙ sym (append_assoc xs ys z))

given_all : (a b : Option (List ℕ)) (xs : List ℕ) → Consumes a b xs → IsAtEnd b → IfSome a (λ given. xs ≡ given)
given_all None b xs p none = tt
given_all (Some x) None xs p none = absurd p
given_all (Some x) (Some y) xs p none = sym (p ∙ (ap (λ l. xs ++ l) none ∙ append-nil xs))

-- at the end of an input no more can come
fits_at_end : (limit : Limit) (text : List ℕ) (left : ℕ) (o : OpenBytes) → length text + left ≡ most_of limit → IsFitSoFar limit text o → IsInLimit limit text
fits_at_end (Limit.Whole most) text left o counted fits = omega (arith, counted)
fits_at_end (Limit.Blocks most) text left o counted fits = (omega (arith, counted), ap (blocks_fit most) (sym (append-nil text)) ∙ fits.comes [])

-- ---- a read

-- ---- a whole input

pub whole_input : {H : Type 0} (stands : List Block → H → Type 0) (input now : Option (List ℕ)) (limit : Limit) (e : Extent) (text : List ℕ) (read : Result H TextFault) → IsConsumed input now text e → e.limit ≡ limit → IsAtEnd now → IsReadInto stands text read
    → IsReadIn limit input (λ text. IsReadInto stands text read)
whole_input stands input now limit e text read so same end is =
    (text, subst (λ (l : Limit). IsInLimit l text) same (fits_at_end e.limit text e.left e.open so.counted so.fits), given_all input now text so.consumed end, is)

-- a fault in the bytes so far, whatever the rest of the input is
pub refused_input : {H O : Type 0} (stands : List Block → H → Type 0) (opens : ℕ → Header → List Line → O → Type 0) (input after : Option (List ℕ)) (limit : Limit) (e : Extent) (reading : Reading H O) (unfinished part bytes rest : List ℕ) (fault : TextFault) → reading.only_histories ≡ false →
    IsPending stands opens bytes reading unfinished → RefusesPart stands opens reading unfinished part fault → IsConsumed input after ((bytes ++ part) ++ rest) e → e.limit ≡ limit → IsAtEnd after → IsReadIn limit input (λ text. IsReadInto stands text (Err fault))
refused_input stands opens input after limit e reading unfinished part bytes rest fault any so bad consumed same end =
    whole_input stands input after limit e ((bytes ++ part) ++ rest) (Err fault) consumed same end (text_refused stands reading.only_histories ((bytes ++ part) ++ rest) fault any (bad.refused bytes so rest))

-- what is pending of an input, of which these bytes are consumed
pub record IsReadSoFar {H O : Type 0} (stands : List Block → H → Type 0) (opens : ℕ → Header → List Line → O → Type 0) (input now : Option (List ℕ)) (e : Extent) (reading : Reading H O) (unfinished : List ℕ) : Type 0 where
  pub bytes : List ℕ
  pub consumed : IsConsumed input now bytes e
  pub pending : IsPending stands opens bytes reading unfinished
  pub room : reading.line + length unfinished ≤ length bytes + 1
  pub known : IsKnown reading.block
  pub any : reading.only_histories ≡ false

pub more_so_far : {H O : Type 0} (stands : List Block → H → Type 0) (opens : ℕ → Header → List Line → O → Type 0) (input now after : Option (List ℕ)) (e e' : Extent) (reading next : Reading H O) (unfinished unfinished' part : List ℕ) → (so : IsReadSoFar stands opens input now e reading unfinished)
    → IsConsumed input after (so.bytes ++ part) e' → TakesPart stands opens reading unfinished part next unfinished' → next.line + length unfinished' ≤ reading.line + length unfinished + length part → IsKnown next.block → next.only_histories ≡ reading.only_histories →
    IsReadSoFar stands opens input after e' next unfinished'
more_so_far stands opens input now after e e' reading next unfinished unfinished' part so consumed one shorter known same = record {
  bytes = so.bytes ++ part;
  consumed = consumed;
  pending = one.takes so.bytes so.pending;
  room = let room_so = so.room in omega (arith, room_so, shorter, length-append so.bytes part);
  known = known;
  any = same ∙ so.any;
}

pub starts_before : (old added middle new : List ℕ) → middle ≡ old ++ added → StartsWith new middle → StartsWith new old
starts_before old added middle new grown starts =
    let within : length old ≤ length middle = omega (arith, ap length grown, length-append {A = ℕ}) in
    sym (take-take (length old) (length middle) new within) ∙ (ap (take (length old)) (starts ∙ grown) ∙ take-append_seam old added)
