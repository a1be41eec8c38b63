-- The TSIG of a message with a TSIG is that one.
use Rattle.std.proofs.Common.{◌≡◌, ◌≢◌, ℕ, zero, suc, ◌+◌, ◌-◌, ◌^◌, ◌<◌, ◌≤◌, Bool, true, false, [], ◌∷◌, ◌++◌}
use Rattle.std.proofs.Common.{length, take, drop, get_or, refl, sym, ◌∙◌, ap, arith, append_assoc, take_at, drop_at}
use Rattle.std.proofs.Common.{length-append, length-drop, Option, Some, None, Ok}
use Rattle.std.specs.Prelude.{nat_le, nat_lt, slice_index, not, ◌==◌, ◌&&◌, if◌then◌else◌}
use Rattle.std.specs.List.{All, AllByRecursion}
use Rattle.std.specs.Int.{from_be_bytes, w16}
use Rattle.std.proofs.lemmas.Bool.Decides.{nat_tests}
use Rattle.std.proofs.lemmas.Nat.{be_bytes_2, from_be_bytes-to_be_bytes_8}
use Rattle.std.proofs.lemmas.List.{append-nil, drop-append-le, take-append-le, take-append-drop, drop-drop, take_all}
use Rattle.std.proofs.lemmas.List.{drop_all, length-take-le}
use Rattle.dz_name.specs.Words.{Name, Octets}
use Rattle.dz_name.specs.Name.{wire_of, IsLabel, IsName}
use Rattle.dz_name.specs.Numbers.{two, four, number_of_two, number_of_four}
use Rattle.dz_name.specs.Reading.{name_at}
use Rattle.dz_name.proofs.NumberLemmas.{length_two, number-two}
use Rattle.dz_name.proofs.CanonicalLemmas.{name_at_wire}
use Rattle.dz_header.specs.Header.{header_in}
use Rattle.dz_header.specs.Shape.{behind_owner, behind_head, shape_of}
use Rattle.dz_header.specs.RecordHead.{head_in, head_of}
use Rattle.dz_header.specs.declared.record_head.RecordHead.{RecordHead}
use Rattle.dz_header.specs.declared.shape.Shape.{Shape}
use Rattle.dz_header.proofs.ShapeLemmas.{passed_over}
use Rattle.dz_tsig.specs.Signature.{found, signed_by, tsig_at, signature_among, signature_after, signature_of}
use Rattle.dz_tsig.specs.Signature.{after_questions}
use Rattle.dz_tsig.specs.Numbers.{six, number_of_six}
use Rattle.dz_tsig.specs.Signing.{timers, mac_octets, id_error_other, tsig_rdata, tsig_head, tsig_octets, with_tsig}
use Rattle.dz_tsig.specs.Signing.{without_tsig}
use Rattle.dz_tsig.specs.Tsig.{Tsig, hmac_sha256, after_names, after_size}
use Rattle.dz_tsig.specs.declared.signature.Signature.TheVariants.{Absent, Malformed, Present}
use Rattle.dz_tsig.proofs.AppendLemmas.{two_at, questions_front, shape_front}
use Rattle.dz_tsig.proofs.NumberLemmas.{length_six, rdata_long}

-- ---- an owner in wire form
pub owner_wire : (labels : Name) (more : Octets) → AllByRecursion IsLabel labels
    → behind_owner 0 (wire_of labels ++ more) ≡ Some more
unfolding behind_owner wire_of
owner_wire [] more each = refl
owner_wire (label ∷ labels) more each =
    let some : (length label == 0) ≡ false = grind (arith, nat_tests, each.0.some) in
    let short : nat_le (length label) 63 ≡ true = grind (arith, nat_tests, each.0.short) in
    let split : (label ++ wire_of labels) ++ more ≡ label ++ (wire_of labels ++ more) =
    append_assoc label (wire_of labels) more in
    let over = passed_over (length label) (label ++ (wire_of labels ++ more))
    (omega (arith, length-append label (wire_of labels ++ more))) in
    let rest : drop (length label) (label ++ (wire_of labels ++ more)) ≡ wire_of labels ++ more =
    drop_at label (wire_of labels ++ more) (length label) refl in
    rw (some, short, split) (over ∙ (ap (behind_owner 0) rest ∙ owner_wire labels more each.1))

-- ---- the head
abbrev the_head : RecordHead
the_head = record { kind = 250; class = 255; ttl = 0; size = 61 }

head_there : (rdata : Octets) → head_in (tsig_head 61 ++ rdata) ≡ the_head
unfolding head_in tsig_head two four number_of_two number_of_four
head_there rdata = refl

head_long : length (tsig_head 61) ≡ 10
unfolding tsig_head two four
head_long = refl

head_rest : (rdata : Octets) → drop 10 (tsig_head 61 ++ rdata) ≡ rdata
head_rest rdata = drop_at (tsig_head 61) rdata 10 head_long

head_found : (rdata : Octets) → head_of (tsig_head 61 ++ rdata) ≡ Some the_head
head_found rdata =
    let long : nat_lt (length (tsig_head 61 ++ rdata)) 10 ≡ false =
    grind (arith, nat_tests, length-append (tsig_head 61) rdata, head_long) in
    rw long (ap Some (head_there rdata))

record_shape : (root : Bool) (rdata : Octets) → length rdata ≡ 61
    → behind_head root (tsig_head 61 ++ rdata) ≡ Some (record { root = root; head = the_head }, rdata, [])
unfolding behind_head
record_shape root rdata long =
    let there : nat_lt (length rdata) 61 ≡ false = grind (arith, nat_tests, long) in
    let all : take 61 rdata ≡ rdata = take_all 61 rdata (omega (arith, long)) in
    let none : drop 61 rdata ≡ [] = drop_all 61 rdata (omega (arith, long)) in
    rw (head_found rdata, head_rest rdata, there, all, none) refl

-- ---- RDATA
abbrev rest_of : Octets → ℕ → Octets
rest_of mac id = mac ++ id_error_other id

six_back : (n : ℕ) (more : Octets) → n < 2 ^ 48 → number_of_six (six n ++ more) ≡ n
unfolding number_of_six six
six_back n more small = omega (arith, small, from_be_bytes-to_be_bytes_8 n (omega (arith, small)))

module _ (at : ℕ) (key algorithm : Name) (time : ℕ) (mac : Octets) (id : ℕ) (small : time < 2 ^ 48)
    (long : length mac ≡ 32) (fits : id < 2 ^ 16) where
  abbrev fields : Octets
  fields = timers time 300 ++ (mac_octets mac ++ id_error_other id)

  abbrev the_tsig : Tsig
  the_tsig = record {
    at = at;
    key = key;
    algorithm = algorithm;
    time = time;
    fudge = 300;
    mac = mac;
    id = id;
    error = 0;
    other = [];
  }

  six_first : fields ≡ six time ++ (two 300 ++ (two (length mac) ++ (mac ++ id_error_other id)))
  six_first = append_assoc (six time) (two 300) _
      ∙ ap (λ o. six time ++ (two 300 ++ o)) (append_assoc (two (length mac)) mac (id_error_other id))

  time_there : number_of_six fields ≡ time
  time_there = ap number_of_six six_first ∙ six_back time _ small

  fudge_there : number_of_two (drop 6 fields) ≡ 300
  fudge_there = ap (λ o. number_of_two (drop 6 o)) six_first
      ∙ (ap number_of_two (drop_at (six time) _ 6 (length_six time)) ∙ number-two 300 _ (omega arith))

  after_eight : drop 8 fields ≡ two (length mac) ++ (mac ++ id_error_other id)
  after_eight = drop_at (timers time 300) _ 8 (length-append (six time) (two 300)
      ∙ omega (arith, length_six time, length_two 300)) ∙ append_assoc (two (length mac)) mac (id_error_other id)

  size_there : number_of_two (drop 8 fields) ≡ 32
  size_there = ap number_of_two after_eight ∙ (number-two (length mac) _ (omega (arith, long)) ∙ long)

  after_ten : drop 10 fields ≡ rest_of mac id
  after_ten =
      sym (drop-drop 2 8 fields) ∙ (ap (drop 2) after_eight ∙ drop_at (two (length mac)) _ 2 (length_two (length mac)))

  rest_long : length (rest_of mac id) ≡ 38
  rest_long = length-append mac (id_error_other id) ∙ omega (
    arith,
    long,
    length-append (two id) (two 0 ++ two 0),
    length-append (two 0) (two 0),
    length_two id,
    length_two 0,
  )

  id_there : drop 32 (rest_of mac id) ≡ id_error_other id
  id_there = drop_at mac (id_error_other id) 32 long

  error_there : drop 34 (rest_of mac id) ≡ two 0 ++ two 0
  error_there = sym (drop-drop 2 32 (rest_of mac id))
      ∙ (ap (drop 2) id_there ∙ drop_at (two id) (two 0 ++ two 0) 2 (length_two id))

  other_there : drop 36 (rest_of mac id) ≡ two 0
  other_there = sym (drop-drop 2 34 (rest_of mac id))
      ∙ (ap (drop 2) error_there ∙ drop_at (two 0) (two 0) 2 (length_two 0))

  nothing_there : drop 38 (rest_of mac id) ≡ []
  nothing_there = drop_all 38 (rest_of mac id) (omega (arith, rest_long))

  zero_there : number_of_two (two 0) ≡ 0
  zero_there = ap number_of_two (sym (append-nil (two 0))) ∙ number-two 0 [] (omega arith)

  size_read : after_size at key algorithm fields 32 (rest_of mac id) ≡ Some the_tsig
  unfolding after_size
  size_read =
      let enough : nat_lt (length (rest_of mac id)) 38 ≡ false = grind (arith, nat_tests, rest_long) in
      let exact : (length (rest_of mac id) == 38) ≡ true = grind (arith, nat_tests, rest_long) in
      let none : 38 + number_of_two (drop 36 (rest_of mac id)) ≡ 38 =
      ap (λ o. 38 + number_of_two o) other_there ∙ omega (arith, zero_there) in
      let own : number_of_two (drop 32 (rest_of mac id)) ≡ id =
      ap number_of_two id_there ∙ number-two id (two 0 ++ two 0) fits in
      let no_error : number_of_two (drop 34 (rest_of mac id)) ≡ 0 =
      ap number_of_two error_there ∙ number-two 0 (two 0) (omega arith) in
      let code : take 32 (rest_of mac id) ≡ mac = take_at mac (id_error_other id) 32 long in
      rw (enough, none, exact, time_there, fudge_there, code, own, no_error, nothing_there) refl

  pub fields_read : after_names at key algorithm fields ≡ Some the_tsig
  unfolding after_names
  fields_read =
      let count : length fields ≡ 10 + length (drop 10 fields) =
      omega (arith, length-drop 10 fields, ap length after_ten, rest_long) in
      let enough : nat_lt (length fields) 10 ≡ false = grind (arith, nat_tests, count) in
      rw (enough, size_there, after_ten) size_read

-- ---- the algorithm's name
algorithm_is : IsName hmac_sha256
unfolding wire_of
algorithm_is = record {
  each = (record { some = omega arith; short = omega arith; lower_case = refl }, tt);
  short = omega arith;
}

-- ---- leading records show nothing
found_never : (m : Octets) (is_last : Bool) (octets : Octets) (x : Shape × Octets × Octets)
    → found m is_last octets x ≢ Absent
found_never m is_last octets x = never (is_last && length x.2 == 0) (tsig_at m (length m - length octets) x.0.head x.1)
  where
    never_signed : (o : Option Tsig) → signed_by o ≢ Absent
    never_signed None e = cc
    never_signed (Some t) e = cc

    never : (b : Bool) (o : Option Tsig) → (if b then signed_by o else Malformed) ≢ Absent
    never true o e = never_signed o e
    never false o e = cc

among_with_tsig : (m s t : Octets) (is_additional : Bool) (n : ℕ) (rest : Octets)
    → signature_among m is_additional n rest ≡ Absent
    → signature_among s true (suc n) (rest ++ t) ≡ signature_among s true 1 t
unfolding signature_among
among_with_tsig m s t is_additional zero [] e = refl
among_with_tsig m s t is_additional zero (o ∷ os) e =
    let some : (length (o ∷ os) == 0) ≡ false = grind (arith, nat_tests) in
    let h : Malformed ≡ Absent = rw some at e in
    absurd (cc)
among_with_tsig m s t is_additional (suc n) rest e = elim (shape_of rest) as (λ o. shape_of rest ≡ o
    → signature_among s true (suc (suc n)) (rest ++ t) ≡ signature_among s true 1 t) [
      | None ↦ λ f. absurd (let h : Malformed ≡ Absent = rw f at e in cc)
      | Some x ↦ λ f. elim (x.0.head.kind == 250) as (λ b. (x.0.head.kind == 250) ≡ b
          → signature_among s true (suc (suc n)) (rest ++ t) ≡ signature_among s true 1 t) [
            | true ↦ λ k. absurd (found_never m (is_additional && n == 0) rest x (rw (f, k) at e))
            | false ↦ λ k.
                let more : signature_among m is_additional n x.2 ≡ Absent = rw (f, k) at e in
                let there = shape_front rest t x f in
                rw (there, k) (among_with_tsig m s t is_additional n x.2 more)
          ] refl
    ] refl

-- ---- a message that is with_tsig
module _ (key : Name) (is : IsName key) (time : ℕ) (small : time < 2 ^ 48) (mac : Octets)
    (long : length mac ≡ 32) (m : Octets) (header : 12 ≤ length m) (fits : number_of_two m < 2 ^ 16)
    (room : number_of_two (drop 10 m) < 65535) where
  abbrev count : ℕ
  count = number_of_two (drop 10 m)

  abbrev rdata : Octets
  rdata = tsig_rdata time mac (number_of_two m)

  abbrev tsig : Octets
  tsig = tsig_octets key time mac (number_of_two m)

  abbrev front : Octets
  front = take 10 m ++ (two (count + 1) ++ drop 12 m)

  abbrev whole : Octets
  whole = with_tsig key time mac m

  abbrev shown_tsig : Tsig
  shown_tsig = record {
    at = length m;
    key = key;
    algorithm = hmac_sha256;
    time = time;
    fudge = 300;
    mac = mac;
    id = number_of_two m;
    error = 0;
    other = [];
  }

  front_long : length front ≡ length m
  front_long = length-append (take 10 m) (two (count + 1) ++ drop 12 m)
      ∙ omega (
        arith,
        length-take-le 10 m (omega (arith, header)),
        length-append (two (count + 1)) (drop 12 m),
        length_two (count + 1),
        length-drop 12 m,
        header,
      )

  pub whole_is : whole ≡ front ++ tsig
  unfolding with_tsig
  whole_is = sym (append_assoc (take 10 m) (two (count + 1) ++ drop 12 m) tsig
      ∙ ap (λ o. take 10 m ++ o) (append_assoc (two (count + 1)) (drop 12 m) tsig))

  tsig_is : tsig ≡ wire_of key ++ (tsig_head 61 ++ rdata)
  unfolding tsig_octets
  tsig_is = ap (λ n. wire_of key ++ (tsig_head n ++ rdata)) (rdata_long time mac (number_of_two m) long)

  rdata_is : rdata ≡ wire_of hmac_sha256 ++ fields 0 key hmac_sha256 time mac (number_of_two m) small long fits
  unfolding tsig_rdata
  rdata_is = refl

  tsig_shape : shape_of tsig ≡ Some (record { root = slice_index tsig 0 == 0; head = the_head }, rdata, [])
  unfolding shape_of
  tsig_shape =
      let owner : behind_owner 0 tsig ≡ Some (tsig_head 61 ++ rdata) =
      ap (behind_owner 0) tsig_is ∙ owner_wire key (tsig_head 61 ++ rdata) is.each in
      rw owner (record_shape (slice_index tsig 0 == 0) rdata (rdata_long time mac (number_of_two m) long))

  tsig_long : length tsig ≡ length (wire_of key) + 71
  tsig_long = ap length tsig_is ∙ (length-append (wire_of key) (tsig_head 61 ++ rdata)
      ∙ omega (arith, length-append (tsig_head 61) rdata, head_long, rdata_long time mac (number_of_two m) long))

  whole_long : length whole ≡ length m + length tsig
  whole_long = ap length whole_is ∙ (length-append front tsig ∙ omega (arith, front_long))

  key_there : name_at whole (length whole - length tsig) ≡ Ok (key, length front + length (wire_of key))
  key_there =
      let place : length whole - length tsig ≡ length front = omega (arith, whole_long, front_long) in
      let there : whole ≡ front ++ (wire_of key ++ (tsig_head 61 ++ rdata)) =
      whole_is ∙ ap (λ o. front ++ o) tsig_is in
      rw place (ap (λ o. name_at o (length front)) there ∙ name_at_wire front key (tsig_head 61 ++ rdata) is)

  abbrev before_rdata : Octets
  before_rdata = front ++ (wire_of key ++ tsig_head 61)

  whole_split : whole ≡ before_rdata ++ rdata
  whole_split = whole_is ∙ (ap (λ o. front ++ o) (tsig_is ∙ sym (append_assoc (wire_of key) (tsig_head 61) rdata))
      ∙ sym (append_assoc front (wire_of key ++ tsig_head 61) rdata))

  before_rdata_long : length before_rdata ≡ length whole - length rdata
  before_rdata_long = omega (arith, ap length whole_split, length-append before_rdata rdata)

  algorithm_there : name_at whole (length whole - length rdata)
      ≡ Ok (hmac_sha256, length before_rdata + length (wire_of hmac_sha256))
  algorithm_there =
      let there : whole ≡ before_rdata
      ++ (wire_of hmac_sha256 ++ fields 0 key hmac_sha256 time mac (number_of_two m) small long fits) =
      whole_split ∙ ap (λ o. before_rdata ++ o) rdata_is in
      rw (← before_rdata_long) (ap (λ o. name_at o (length before_rdata)) there ∙ name_at_wire before_rdata hmac_sha256
      (fields 0 key hmac_sha256 time mac (number_of_two m) small long fits) algorithm_is)

  fields_there : drop (length before_rdata + length (wire_of hmac_sha256)) whole
      ≡ fields 0 key hmac_sha256 time mac (number_of_two m) small long fits
  fields_there =
      let f = fields 0 key hmac_sha256 time mac (number_of_two m) small long fits in
      let there : whole ≡ (before_rdata ++ wire_of hmac_sha256) ++ f = whole_split
      ∙ (ap (λ o. before_rdata ++ o) rdata_is ∙ sym (append_assoc before_rdata (wire_of hmac_sha256) f)) in
      ap (drop (length before_rdata + length (wire_of hmac_sha256))) there
      ∙ drop_at (before_rdata ++ wire_of hmac_sha256) f _ (length-append before_rdata (wire_of hmac_sha256))

  tsig_read : tsig_at whole (length whole - length tsig) the_head rdata ≡ Some shown_tsig
  unfolding tsig_at
  tsig_read =
      let place : length whole - length tsig ≡ length m = omega (arith, whole_long) in
      rw (key_there, algorithm_there, fields_there, place)
      (fields_read (length m) key hmac_sha256 time mac (number_of_two m) small long fits)

  pub tsig_present : signature_among whole true 1 tsig ≡ Present shown_tsig
  unfolding signature_among
  tsig_present = rw (tsig_shape, tsig_read) refl

  -- ---- the header
  early : (k : ℕ) → k + 2 ≤ 10 → number_of_two (drop k whole) ≡ number_of_two (drop k m)
  unfolding with_tsig
  early k low =
      let size : length (take 10 m) ≡ 10 = length-take-le 10 m (omega (arith, header)) in
      two_at k (take 10 m) (two (count + 1) ++ (drop 12 m ++ tsig)) (omega (arith, low, size))
      ∙ (sym (two_at k (take 10 m) (drop 10 m) (omega (arith, low, size)))
      ∙ ap (λ o. number_of_two (drop k o)) (take-append-drop 10 m))

  after_ten_octets : drop 10 whole ≡ two (count + 1) ++ (drop 12 m ++ tsig)
  unfolding with_tsig
  after_ten_octets =
      drop_at (take 10 m) (two (count + 1) ++ (drop 12 m ++ tsig)) 10 (length-take-le 10 m (omega (arith, header)))

  pub count_more : number_of_two (drop 10 whole) ≡ count + 1
  count_more = ap number_of_two after_ten_octets ∙ number-two (count + 1) (drop 12 m ++ tsig) (omega (arith, room))

  after_header : drop 12 whole ≡ drop 12 m ++ tsig
  after_header = sym (drop-drop 2 10 whole)
      ∙ (ap (drop 2) after_ten_octets ∙ drop_at (two (count + 1)) (drop 12 m ++ tsig) 2 (length_two (count + 1)))

  -- ---- what it shows
  records_present : (rest : Octets) → signature_among m (not (count == 0))
      (number_of_two (drop 6 m) + number_of_two (drop 8 m) + count) rest ≡ Absent
      → signature_among whole (not (number_of_two (drop 10 whole) == 0)) (number_of_two (drop 6 whole)
      + number_of_two (drop 8 whole) + number_of_two (drop 10 whole)) (rest ++ tsig) ≡ Present shown_tsig
  records_present rest e =
      let n = number_of_two (drop 6 m) + number_of_two (drop 8 m) + count in
      let more : number_of_two (drop 6 m) + number_of_two (drop 8 m) + (count + 1) ≡ suc n = omega arith in
      let some : ((count + 1) == 0) ≡ false = grind (arith, nat_tests) in
      rw (early 6 (omega arith), early 8 (omega arith), count_more, more, some)
      (among_with_tsig m whole tsig (not (count == 0)) n rest e ∙ tsig_present)

  signature_after_is : (o : Option Octets) → after_questions (number_of_two (drop 4 m)) (drop 12 m) ≡ o
      → signature_after m (header_in m) o ≡ Absent → signature_of whole ≡ Present shown_tsig
  unfolding signature_of header_in
  signature_after_is None f e = absurd (cc)
  signature_after_is (Some rest) f e =
      let enough : nat_lt (length whole) 12 ≡ false = grind (arith, nat_tests, whole_long, header) in
      let questions : after_questions (number_of_two (drop 4 whole)) (drop 12 whole) ≡ Some (rest ++ tsig) =
      ap (λ n. after_questions n (drop 12 whole)) (early 4 (omega arith))
      ∙ (ap (after_questions (number_of_two (drop 4 m))) after_header
      ∙ questions_front (number_of_two (drop 4 m)) (drop 12 m) rest tsig f) in
      rw (enough, questions) (records_present rest e)

  pub with_tsig_signature : signature_of m ≡ Absent → signature_of whole ≡ Present shown_tsig
  unfolding signature_of header_in
  with_tsig_signature e =
      let enough : nat_lt (length m) 12 ≡ false = grind (arith, nat_tests, header) in
      let own : signature_after m (header_in m) (after_questions (number_of_two (drop 4 m)) (drop 12 m)) ≡ Absent =
      rw enough at e in
      signature_after_is (after_questions (number_of_two (drop 4 m)) (drop 12 m)) refl own

  -- ---- what is left of it without the TSIG
  middle_same : take 8 (drop 2 whole) ≡ take 8 (drop 2 m)
  unfolding with_tsig
  middle_same =
      let size : length (take 10 m) ≡ 10 = length-take-le 10 m (omega (arith, header)) in
      let a : drop 2 whole ≡ drop 2 (take 10 m) ++ (two (count + 1) ++ (drop 12 m ++ tsig)) =
      drop-append-le 2 (take 10 m) (two (count + 1) ++ (drop 12 m ++ tsig)) (omega (arith, size)) in
      let b : drop 2 m ≡ drop 2 (take 10 m) ++ drop 10 m =
      ap (drop 2) (sym (take-append-drop 10 m)) ∙ drop-append-le 2 (take 10 m) (drop 10 m) (omega (arith, size)) in
      let n : 8 ≤ length (drop 2 (take 10 m)) = omega (arith, size, length-drop 2 (take 10 m)) in
      ap (take 8) a ∙ (take-append-le 8 (drop 2 (take 10 m)) _ n
      ∙ sym (ap (take 8) b ∙ take-append-le 8 (drop 2 (take 10 m)) (drop 10 m) n))

  back_same : drop 12 front ≡ drop 12 m
  back_same =
      let size : length (take 10 m ++ two (count + 1)) ≡ 12 = length-append (take 10 m) (two (count + 1))
      ∙ omega (arith, length-take-le 10 m (omega (arith, header)), length_two (count + 1)) in
      ap (drop 12) (sym (append_assoc (take 10 m) (two (count + 1)) (drop 12 m)))
      ∙ drop_at (take 10 m ++ two (count + 1)) (drop 12 m) 12 size

  joined : take 2 m ++ (take 8 (drop 2 m) ++ (take 2 (drop 10 m) ++ drop 12 m)) ≡ m
  joined =
      let c : take 2 (drop 10 m) ++ drop 12 m ≡ drop 10 m =
      ap (λ o. take 2 (drop 10 m) ++ o) (sym (drop-drop 2 10 m)) ∙ take-append-drop 2 (drop 10 m) in
      let b : take 8 (drop 2 m) ++ drop 10 m ≡ drop 2 m =
      ap (λ o. take 8 (drop 2 m) ++ o) (sym (drop-drop 8 2 m)) ∙ take-append-drop 8 (drop 2 m) in
      rw (c, b) (take-append-drop 2 m)

  pub with_tsig_without : two (number_of_two m) ≡ take 2 m → two count ≡ take 2 (drop 10 m)
      → without_tsig whole shown_tsig ≡ m
  unfolding without_tsig
  with_tsig_without first counts =
      let middle : take 8 (drop 2 whole) ≡ take 8 (drop 2 m) = middle_same in
      let less : count + 1 - 1 ≡ count = omega arith in
      let front_is : take (length m) whole ≡ front =
      ap (take (length m)) whole_is ∙ take_at front tsig (length m) front_long in
      let back : drop 12 front ≡ drop 12 m = back_same in
      rw (middle, count_more, less, front_is, back, first, counts) joined

-- ---- two octets and their number
pub two_octets : (xs : Octets) → All (λ o. o < 2 ^ 8) xs → 2 ≤ length xs → two (number_of_two xs) ≡ take 2 xs
unfolding two number_of_two
two_octets [] below h = absurd (omega arith)
two_octets (a ∷ []) below h = absurd (omega arith)
two_octets (a ∷ b ∷ rest) below h = be_bytes_2 (a ∷ b ∷ []) (from_be_bytes w16 (a ∷ b ∷ rest)) refl
    (bytes (below 0 0 (omega arith)) (below 1 0 (omega arith))) refl
  where
    bytes : a < 256 → b < 256 → (i : ℕ) → get_or (a ∷ b ∷ []) i 0 < 256
    bytes p q zero = p
    bytes p q (suc zero) = q
    bytes p q (suc (suc i)) = omega arith

pub two_small : (xs : Octets) → All (λ o. o < 2 ^ 8) xs → 2 ≤ length xs → number_of_two xs < 2 ^ 16
unfolding number_of_two
two_small [] below h = absurd (omega arith)
two_small (a ∷ []) below h = absurd (omega arith)
two_small (a ∷ b ∷ rest) below h = omega (arith, below 0 0 (omega arith), below 1 0 (omega arith))

pub header_there : (m : Octets) → signature_of m ≡ Absent → 12 ≤ length m
unfolding signature_of
header_there m e = elim (nat_lt (length m) 12) as (λ b. nat_lt (length m) 12 ≡ b → 12 ≤ length m) [
  | true ↦ λ t. absurd (let h : Malformed ≡ Absent = rw t at e in cc)
  | false ↦ λ t. grind (arith, nat_tests)
] refl
