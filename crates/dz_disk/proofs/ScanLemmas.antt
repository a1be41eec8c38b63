-- How the records of a file are read one by one, and how its end is closed.
use Rattle.std.proofs.Common.{◌≡◌, ℕ, ◌+◌, ◌<◌, ◌≤◌, Bool, List, [], ◌∷◌, ◌++◌, length, take, drop, Option, Some, None}
use Rattle.std.proofs.Common.{refl, sym, ap, subst, ◌∙◌, arith, length-append}
use Rattle.std.specs.Prelude.{slice_get}
use Rattle.dz_disk.specs.Disk.{IsSure}
use Rattle.dz_disk.specs.RecordLog.{body, log, records, IsPayload, ArePayloads, IsAtRest, IsSettled}
use Rattle.dz_disk.specs.inner.Reading.{IsRecords, IsAll, IsFound}
use Rattle.dz_disk.specs.declared.scan.Found.TheVariants as found
use Rattle.dz_disk.proofs.OctetLemmas.{at_place, same_front, same_rest}
use Rattle.dz_disk.proofs.RecordLemmas.{records_nil, shut, records_log, records_shut, log_push, length-log_push}
use Rattle.dz_disk.proofs.RecordLemmas.{fits_push}
use Rattle.dz_disk.proofs.CrashLemmas.{rest_records}

end_place : (xs : List ℕ) → slice_get (xs ++ []) (length xs) ≡ None
end_place [] = refl
end_place (x ∷ xs) = end_place xs

length-log_append : (xs ys : List (List ℕ)) → length (log (xs ++ ys)) ≡ length (log xs) + length (log ys)
length-log_append [] ys = omega arith
length-log_append (x ∷ xs) ys =
    omega (arith, length-log_append xs ys, length-append (body x) (log (xs ++ ys)), length-append (body x) (log xs))

module _ {I : Type 0} (reads : List ℕ → Bool) (is_of : I → List (List ℕ) → Type 0) where
  pub scan_none : (index : I) (f : List ℕ) → is_of index [] → IsRecords reads is_of index 0 f []
  scan_none index f known = record { are = refl; ends = refl; fits = tt; known = known }

  pub scan_more : (index new : I) (end far : ℕ) (f : List ℕ) (list : List (List ℕ)) (p more : List ℕ)
      → IsRecords reads is_of index end f list → drop end f ≡ 1 ∷ (body p ++ more) → IsPayload reads p
      → far ≡ end + (9 + length p) → is_of new (list ++ p ∷ []) → IsRecords reads is_of new far f (list ++ p ∷ [])
  scan_more index new end far f list p more so_far here is far_is known =
      let whole : f ≡ log (list ++ p ∷ []) ++ more =
      so_far.are ∙ ap (λ l. log list ++ l) here ∙ sym (log_push list p more) in
      let ends : far ≡ length (log (list ++ p ∷ [])) = omega (arith, far_is, so_far.ends, length-log_push list p) in
      record {
        are = whole
            ∙ ap (λ l. log (list ++ p ∷ []) ++ l) (sym (same_rest far f (log (list ++ p ∷ [])) more whole (sym ends)));
        ends = ends;
        fits = fits_push reads list p so_far.fits is;
        known = known;
      }

  -- a record that ends past a limit is one of the file's records
  pub scan_past : (index : I) (end most : ℕ) (f : List ℕ) (list : List (List ℕ)) (p more : List ℕ)
      → IsRecords reads is_of index end f list → drop end f ≡ 1 ∷ (body p ++ more) → IsPayload reads p
      → most < end + 9 + length p → most < length (log (records reads f))
  scan_past index end most f list p more so_far here is past =
      let whole : f ≡ log (list ++ p ∷ []) ++ more =
      so_far.are ∙ ap (λ l. log list ++ l) here ∙ sym (log_push list p more) in
      let are : records reads f ≡ (list ++ p ∷ []) ++ records reads more =
      ap (records reads) whole ∙ records_log reads (list ++ p ∷ []) more (fits_push reads list p so_far.fits is) in
      omega (
        arith,
        past,
        so_far.ends,
        ap (λ l. length (log l)) are,
        length-log_append (list ++ p ∷ []) (records reads more),
        length-log_push list p,
      )

  pub scan_all : (index : I) (end : ℕ) (gate : Option ℕ) (f : List ℕ) (list : List (List ℕ))
      → IsRecords reads is_of index end f list → IsFound reads (found.Shut gate) (drop end f)
      → IsAll reads is_of index end gate f
  scan_all index end gate f list so_far here =
      let same : list ≡ records reads f =
      sym (records_shut reads list f (drop end f) so_far.fits so_far.are (none_there gate (drop end f) here)) in
      record {
        all = subst (λ l. IsRecords reads is_of index end f l) same so_far;
        gate_is = gate_there gate (drop end f) here
            ∙ sym (ap (λ n. slice_get f n) so_far.ends ∙ ap (λ l. slice_get l (length (log list))) so_far.are);
      }
    where
      none_there : (gate : Option ℕ) (rest : List ℕ) → IsFound reads (found.Shut gate) rest → records reads rest ≡ []
      none_there None rest here = ap (λ l. records reads l) here ∙ records_nil reads
      none_there (Some g) rest here = ap (λ l. records reads l) here.1 ∙ shut reads g here.0 here.2

      gate_there : (gate : Option ℕ) (rest : List ℕ) → IsFound reads (found.Shut gate) rest
          → gate ≡ slice_get (log list ++ rest) (length (log list))
      gate_there None rest here =
          sym (ap (λ l. slice_get (log list ++ l) (length (log list))) here ∙ end_place (log list))
      gate_there (Some g) rest here =
          sym (ap (λ l. slice_get (log list ++ l) (length (log list))) here.1 ∙ at_place (log list) g here.0)

  -- the gate after all records is closed, and all is on the disk
  pub closed_all : (index : I) (end : ℕ) (gate : Option ℕ) (f g junk : List ℕ) (may_leave : List ℕ → Type 0)
      → IsAll reads is_of index end gate f → g ≡ take end f ++ 0 ∷ junk → IsSure g may_leave
      → (records reads g ≡ records reads f) × IsSettled reads is_of may_leave index end g
  closed_all index end gate f g junk may_leave all are sure =
      let list = records reads f in
      let front : take end f ≡ log list = same_front end f (log list) (drop end f) all.all.are (sym all.all.ends) in
      let rest : IsAtRest list g = record { junk = junk; are = are ∙ ap (λ l. l ++ 0 ∷ junk) front } in
      let same : records reads g ≡ list = rest_records reads list g all.all.fits rest in (
        same,
        subst (λ l. IsAtRest l g → ArePayloads reads l → end ≡ length (log l) → is_of index l
            → IsSettled reads is_of may_leave index end g) same
            (λ r fits ends known. record { rest = r; fits = fits; ends = ends; sure = sure; known = known })
            rest all.all.fits all.all.ends all.all.known,
      )

  pub within_all : (index : I) (end : ℕ) (gate : Option ℕ) (f : List ℕ) → IsAll reads is_of index end gate f
      → end ≤ length f
  within_all index end gate f all =
      omega (arith, all.all.ends, ap length all.all.are, length-append (log (records reads f)) (drop end f))
