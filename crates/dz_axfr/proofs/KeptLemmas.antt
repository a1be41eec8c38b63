-- What is kept of a whole form while it is fed.
use Rattle.std.proofs.Common.{◌≡◌, ℕ, suc, ◌+◌, ◌<◌, ◌≤◌, true, false, List, [], ◌∷◌, ◌++◌, length, take, drop, get_or}
use Rattle.std.proofs.Common.{refl, sym, ◌∙◌, ap, subst, append_assoc, arith, Some, None, Result, Ok, Err}
use Rattle.std.proofs.lemmas.List.{append-nil}
use Rattle.std.proofs.lemmas.List.Quantifiers.{position-Some}
use Rattle.std.specs.Str.{bytes_eq}
use Rattle.std.specs.List.{AllByRecursion, position}
use Rattle.dz_name.specs.Words.{Name}
use Rattle.dz_record.specs.Record.{Record}
use Rattle.dz_record.specs.Records.{distinct}
use Rattle.dz_xfr.specs.declared.fault.Progress.{Progress}
use Rattle.dz_xfr.specs.declared.fault.Progress.TheVariants.{More, Ended}
use Rattle.dz_xfr.specs.declared.fault.FeedError.{FeedError}
use Rattle.dz_xfr.specs.declared.fault.FeedError.TheVariants.{Shape, OutOfMemory}
use Rattle.dz_xfr.specs.declared.fault.ShapeFault.{ShapeFault}
use Rattle.dz_xfr.specs.declared.fault.ShapeFault.TheVariants.{SerialGap, AfterEnd}
use Rattle.dz_xfr.specs.Apex.{is_apex_soa}
use Rattle.dz_xfr.specs.Feeding.{IsOpen}
use Rattle.dz_xfr.specs.Answers.{Says}
use Rattle.dz_xfr.specs.Place.{amid, ended, failed, read, said}
use Rattle.dz_xfr.specs.Stands.{Stands, more, complete, is_complete, IsComplete}
use Rattle.dz_xfr.proofs.ReadingLemmas.{stays_failed, read_pieces}
use Rattle.dz_axfr.specs.Assembly.{Assembly}
use Rattle.dz_axfr.specs.Whole.{IsWhole, Blames}
use Rattle.dz_axfr.specs.Reading.{nothing, opened, one, place_of}
use Rattle.dz_axfr.specs.inner.Kept.{kept_place, OpensAt, AreKept, IsKept, IsHeld, Cuts, Misfits}
use Rattle.dz_axfr.proofs.ListLemmas.{front_fails, none_passes, some_behind, none_behind, cut_at}
use Rattle.dz_axfr.proofs.SiftLemmas.{same_front, first_kept}
use Rattle.dz_axfr.proofs.WholeLemmas.{read_body, agrees, whole_stands, whole_stands_once}

-- records that were read after those that are kept, and what is kept then; a fault leaves it as it was
abbrev Extends : Name → List Record → List Record → Result Progress FeedError → List Record → Type 0
Extends apex old records (Ok progress) new = OpensAt apex new
    × (read (one apex) (kept_place More old) records ≡ kept_place progress new) × AreKept progress new (old ++ records)
Extends apex old records (Err (Shape fault)) new =
    (new ≡ old) × (read (one apex) (kept_place More old) records ≡ failed fault)
Extends apex old records (Err OutOfMemory) new = new ≡ old

module _ (apex : Name) where
  pub no_soa_there : (kept records : List Record) → OpensAt apex kept → position (is_apex_soa apex) records ≡ None
      → read (one apex) (kept_place More kept) records ≡ kept_place More (kept ++ records)
  no_soa_there [] records o e = absurd o
  no_soa_there (first ∷ body) records o e =
      ap (λ l. read (one apex) (amid (opened first body)) l) (sym (append-nil records))
      ∙ read_body apex first body records [] (none_passes (is_apex_soa apex) records e)

  soa_there : (first x : Record) (body records : List Record) (at : ℕ)
      → position (is_apex_soa apex) records ≡ Some at → x ≡ get_or records at x
      → (is_apex_soa apex x ≡ true) × (read (one apex) (amid (opened first body)) records
      ≡ read (one apex) (one apex (opened first (body ++ take at records)) x) (drop (suc at) records))
  soa_there first x body records at e is =
      let w = position-Some (is_apex_soa apex) records at x e in
      let t : is_apex_soa apex x ≡ true = ap (is_apex_soa apex) is ∙ w.1 in
      let inner : AllByRecursion (λ r. is_apex_soa apex r ≡ false) (take at records) =
      front_fails (is_apex_soa apex) records at x (λ k b l. w.2 k b) in (
        t,
        ap (read (one apex) (amid (opened first body))) (cut_at records at x w.0 is)
            ∙ read_body apex first body (take at records) (x ∷ drop (suc at) records) inner,
      )

  pub other_rdata : (kept records : List Record) (first x : Record) (at : ℕ) → OpensAt apex kept
      → first ≡ get_or kept 0 first → position (is_apex_soa apex) records ≡ Some at → x ≡ get_or records at x
      → bytes_eq x.rdata first.rdata ≡ false → read (one apex) (kept_place More kept) records ≡ failed SerialGap
  other_rdata [] records first x at o f e is n = absurd o
  other_rdata (soa ∷ body) records first x at o f e is n =
      let w = soa_there soa x body records at e is in
      let m : bytes_eq x.rdata soa.rdata ≡ false = rw f at n in
      w.1 ∙ (rw (w.0, m) (stays_failed (one apex) SerialGap (drop (suc at) records)))

  pub more_behind : (kept records : List Record) (first x : Record) (at : ℕ) → OpensAt apex kept
      → first ≡ get_or kept 0 first → position (is_apex_soa apex) records ≡ Some at → x ≡ get_or records at x
      → bytes_eq x.rdata first.rdata ≡ true → at + 1 < length records
      → read (one apex) (kept_place More kept) records ≡ failed AfterEnd
  more_behind [] records first x at o f e is n b = absurd o
  more_behind (soa ∷ body) records first x at o f e is n b =
      let w = soa_there soa x body records at e is in
      let m : bytes_eq x.rdata soa.rdata ≡ true = rw f at n in
      let v = some_behind records (suc at) (omega arith) in
      w.1 ∙ (rw (w.0, m, v.2) (stays_failed (one apex) AfterEnd v.1))

  pub at_the_end : (kept records : List Record) (first x : Record) (at : ℕ) → OpensAt apex kept
      → first ≡ get_or kept 0 first → position (is_apex_soa apex) records ≡ Some at → x ≡ get_or records at x
      → bytes_eq x.rdata first.rdata ≡ true → length records ≤ at + 1
      → read (one apex) (kept_place More kept) records ≡ kept_place Ended (kept ++ take at records)
  at_the_end [] records first x at o f e is n b = absurd o
  at_the_end (soa ∷ body) records first x at o f e is n b =
      let w = soa_there soa x body records at e is in
      let m : bytes_eq x.rdata soa.rdata ≡ true = rw f at n in
      w.1 ∙ (rw (w.0, m, none_behind records (suc at) (omega arith)) refl)

  pub ends_there : (kept records : List Record) (x : Record) (at : ℕ)
      → position (is_apex_soa apex) records ≡ Some at → x ≡ get_or records at x → length records ≤ at + 1
      → (last : Record) × (kept ++ records ≡ (kept ++ take at records) ++ last ∷ [])
  ends_there kept records x at e is n =
      let w = position-Some (is_apex_soa apex) records at x e in
      let cut : records ≡ take at records ++ x ∷ [] = cut_at records at x w.0 is
      ∙ ap (λ l. take at records ++ x ∷ l) (none_behind records (suc at) (omega arith)) in
      (x, ap (λ l. kept ++ l) cut ∙ sym (append_assoc kept (take at records) (x ∷ [])))

  -- the first SOA alone
  pub one_kept : (first : Record) → is_apex_soa apex first ≡ true → IsKept apex (first ∷ []) More (first ∷ [])
  one_kept first t = record { opens = t; place = rw t refl; are = refl }

  pub one_open : (first : Record) → is_apex_soa apex first ≡ true → IsOpen (IsWhole apex) Blames (first ∷ [])
  one_open first t = rw t at (whole_stands apex (first ∷ []))

  -- while more is to come, the end isn't there
  more_amid : (progress : Progress) (kept : List Record) → more ≡ said (kept_place progress kept) → progress ≡ More
  more_amid More kept e = refl
  more_amid Ended kept e = absurd (cc)

  pub still_open : (kept fed : List Record) (progress : Progress) → IsKept apex kept progress fed
      → IsOpen (IsWhole apex) Blames fed → progress ≡ More
  still_open kept fed progress k o = more_amid progress kept (whole_stands_once apex fed more o ∙ ap said k.place)

  -- what the records lead to after those that were fed
  pub fed_on : (kept fed records : List Record) (progress : Progress)
      → IsKept apex kept progress fed → IsOpen (IsWhole apex) Blames fed
      → place_of apex (fed ++ records) ≡ read (one apex) (kept_place More kept) records
  fed_on kept fed records progress k o =
      let f = still_open kept fed progress k o in
      read_pieces (one apex) (amid nothing) fed records
      ∙ ap (λ p. read (one apex) p records) (k.place ∙ ap (λ p. kept_place p kept) f)

  says_more : (new all : List Record) → OpensAt apex new → place_of apex all ≡ kept_place More new
      → Says (Ok More) (Stands (IsWhole apex) Blames all)
  says_more [] all o e = absurd o
  says_more (first ∷ body) all o e = rw e at (whole_stands apex all)

  says_place : (result : Result Progress FeedError) (old new all records : List Record)
      → Extends apex old records result new → place_of apex all ≡ read (one apex) (kept_place More old) records
      → Says result (Stands (IsWhole apex) Blames all)
  says_place (Ok More) old new all records x e = says_more new all x.0 (e ∙ x.1)
  says_place (Ok Ended) old new all records x e = (distinct new, rw (e ∙ x.1) at (whole_stands apex all))
  says_place (Err (Shape fault)) old new all records x e = rw (e ∙ x.1) at (whole_stands apex all)
  says_place (Err OutOfMemory) old new all records x e = tt

  -- what `extend` left says what holds of all records
  pub extended_says : (result : Result Progress FeedError) (old new fed records : List Record) (progress : Progress)
      → IsKept apex old progress fed → IsOpen (IsWhole apex) Blames fed → Extends apex old records result new
      → Says result (Stands (IsWhole apex) Blames (fed ++ records))
  extended_says result old new fed records progress k o x =
      says_place result old new (fed ++ records) records x (fed_on old fed records progress k o)

  -- the records of a whole form that was fed
  ended_kept : (progress : Progress) (kept zone : List Record) → OpensAt apex kept
      → kept_place progress kept ≡ ended zone → kept_place progress kept ≡ ended (distinct kept)
  ended_kept Ended kept zone o e = refl
  ended_kept More [] zone o e = absurd o
  ended_kept More (first ∷ body) zone o e = absurd (cc)

  pub whole_kept : (kept fed : List Record) (progress : Progress) → IsKept apex kept progress fed
      → IsComplete (IsWhole apex) fed → IsWhole apex fed (distinct kept)
  whole_kept kept fed progress k w =
      let e : kept_place progress kept ≡ ended w.0 = sym k.place ∙ (agrees apex).to_end fed w.0 w.1 in
      (agrees apex).from_end fed (distinct kept) (k.place ∙ ended_kept progress kept w.0 k.opens e)

  -- and at its end there is the record that closes it
  ended_are : (progress : Progress) (kept fed zone : List Record) → OpensAt apex kept
      → kept_place progress kept ≡ ended zone → AreKept progress kept fed → AreKept Ended kept fed
  ended_are Ended kept fed zone o e are = are
  ended_are More [] fed zone o e are = absurd o
  ended_are More (first ∷ body) fed zone o e are = absurd (cc)

  pub items_kept : (kept fed : List Record) (progress : Progress) → IsKept apex kept progress fed
      → IsComplete (IsWhole apex) fed → AreKept Ended kept fed
  items_kept kept fed progress k w =
      ended_are progress kept fed w.0 k.opens (sym k.place ∙ (agrees apex).to_end fed w.0 w.1) k.are

  -- what `extend` left is kept of all records
  kept_on : (old new fed records : List Record) (before progress : Progress) → IsKept apex old before fed
      → IsOpen (IsWhole apex) Blames fed → Extends apex old records (Ok progress) new
      → IsKept apex new progress (fed ++ records)
  kept_on old new fed records before progress k o x =
      let all : fed ≡ old = subst (λ p. AreKept p old fed) (still_open old fed before k o) k.are in
      record {
        opens = x.0;
        place = fed_on old fed records before k o ∙ x.1;
        are = subst (λ l. AreKept progress new (l ++ records)) (sym all) x.2;
      }

  -- the same of an assembler as contracts see it
  pub seen_kept : (seen : Assembly) (old new fed records : List Record) (before progress : Progress)
      → record { apex = apex; fed = fed } ≡ seen → IsKept apex old before fed
      → IsOpen (IsWhole seen.apex) Blames seen.fed → Extends apex old records (Ok progress) new
      → IsKept apex new progress (fed ++ records)
  seen_kept seen old new fed records before progress e k =
      subst (λ (s : Assembly). IsOpen (IsWhole s.apex) Blames s.fed → Extends apex old records (Ok progress) new
      → IsKept apex new progress (fed ++ records)) e
      (λ o x. kept_on old new fed records before progress k o x)

  pub seen_says : (seen : Assembly) (result : Result Progress FeedError) (old new fed records : List Record)
      (progress : Progress) → record { apex = apex; fed = fed } ≡ seen → IsKept apex old progress fed
      → IsOpen (IsWhole seen.apex) Blames seen.fed → Extends apex old records result new
      → Says result (Stands (IsWhole seen.apex) Blames (seen.fed ++ records))
  seen_says seen result old new fed records progress e k =
      subst (λ (s : Assembly). IsOpen (IsWhole s.apex) Blames s.fed → Extends apex old records result new
      → Says result (Stands (IsWhole s.apex) Blames (s.fed ++ records))) e
      (λ o x. extended_says result old new fed records progress k o x)

  pub seen_whole : (seen : Assembly) (kept fed : List Record) (progress : Progress)
      → record { apex = apex; fed = fed } ≡ seen → IsKept apex kept progress fed
      → IsComplete (IsWhole seen.apex) seen.fed → IsWhole seen.apex seen.fed (distinct kept)
  seen_whole seen kept fed progress e k =
      subst (λ (s : Assembly). IsComplete (IsWhole s.apex) s.fed → IsWhole s.apex s.fed (distinct kept)) e
      (λ w. whole_kept kept fed progress k w)

  pub seen_items : (seen : Assembly) (kept fed : List Record) (progress : Progress)
      → record { apex = apex; fed = fed } ≡ seen → IsKept apex kept progress fed
      → IsComplete (IsWhole seen.apex) seen.fed → AreKept Ended kept seen.fed
  seen_items seen kept fed progress e k =
      subst (λ (s : Assembly). IsComplete (IsWhole s.apex) s.fed → AreKept Ended kept s.fed) e
      (λ w. items_kept kept fed progress k w)

  -- ---- what is kept where those that are the same may be kept once
  all_opens : (all : List Record) → OpensAt apex all
      → (first : Record) × (body : List Record) × (all ≡ first ∷ body) × (is_apex_soa apex first ≡ true)
  all_opens [] o = absurd o
  all_opens (first ∷ body) o = (first, body, refl, o)

  first_of : (kept body : List Record) (first x : Record) → distinct kept ≡ distinct (first ∷ body)
      → x ≡ get_or kept 0 x → x ≡ first
  first_of kept body first x h e = let w = first_kept kept body first h in e ∙ ap (λ l. get_or l 0 x) w.1

  kept_opens : (kept all : List Record) (x : Record) → distinct kept ≡ distinct all → OpensAt apex all
      → x ≡ get_or kept 0 x → is_apex_soa apex x ≡ true
  kept_opens kept [] x h o e = absurd o
  kept_opens kept (first ∷ body) x h o e = ap (is_apex_soa apex) (first_of kept body first x h e) ∙ o

  -- the first record that is kept is the first SOA
  pub held_first : (kept fed : List Record) (progress : Progress) (x : Record) → IsHeld apex kept progress fed
      → x ≡ get_or kept 0 x → is_apex_soa apex x ≡ true
  held_first kept fed progress x h e = kept_opens kept h.all x h.same h.keeps.opens e

  not_empty : (kept all : List Record) → distinct kept ≡ distinct all → OpensAt apex all → 0 < length kept
  not_empty kept [] h o = absurd o
  not_empty kept (first ∷ body) h o = let w = first_kept kept body first h in rw w.1 (omega arith)

  pub held_some : (kept fed : List Record) (progress : Progress) → IsHeld apex kept progress fed → 0 < length kept
  held_some kept fed progress h = not_empty kept h.all h.same h.keeps.opens

  cuts_on : (kept all records cut : List Record) (x : Record) (progress : Progress)
      → distinct kept ≡ distinct all → OpensAt apex all → x ≡ get_or kept 0 x → Cuts apex x records progress cut
      → Extends apex all records (Ok progress) (all ++ cut)
  cuts_on kept [] records cut x progress h o e w = absurd o
  cuts_on kept (first ∷ body) records cut x progress h o e w =
      let v = subst (λ r. Cuts apex r records progress cut) (first_of kept body first x h e) w in
      (o, (v body).0, (v body).1)

  misfits_on : (kept all records : List Record) (x : Record) (fault : ShapeFault)
      → distinct kept ≡ distinct all → OpensAt apex all → x ≡ get_or kept 0 x → Misfits apex x records fault
      → Extends apex all records (Err (Shape fault)) all
  misfits_on kept [] records x fault h o e w = absurd o
  misfits_on kept (first ∷ body) records x fault h o e w =
      (refl, subst (λ r. Misfits apex r records fault) (first_of kept body first x h e) w body)

  module _ (seen : Assembly) (kept fed records : List Record) (before : Progress) (x : Record)
      (e : record { apex = apex; fed = fed } ≡ seen) (h : IsHeld apex kept before fed)
      (o : IsOpen (IsWhole seen.apex) Blames seen.fed) (f : x ≡ get_or kept 0 x) where
    pub held_on : (new cut : List Record) (progress : Progress) → Cuts apex x records progress cut
        → distinct new ≡ distinct (kept ++ cut) → IsHeld apex new progress (fed ++ records)
    held_on new cut progress w d = record {
      all = h.all ++ cut;
      same = d ∙ same_front kept h.all cut h.same;
      keeps = seen_kept seen h.all (h.all ++ cut) fed records before progress e h.keeps o
          (cuts_on kept h.all records cut x progress h.same h.keeps.opens f w);
    }

    pub says_cut : (cut : List Record) (progress : Progress) → Cuts apex x records progress cut
        → Says (Ok progress) (Stands (IsWhole seen.apex) Blames (seen.fed ++ records))
    says_cut cut progress w = seen_says seen (Ok progress) h.all (h.all ++ cut) fed records before e h.keeps o
        (cuts_on kept h.all records cut x progress h.same h.keeps.opens f w)

    pub says_misfit : (fault : ShapeFault) → Misfits apex x records fault
        → Says (Err (Shape fault)) (Stands (IsWhole seen.apex) Blames (seen.fed ++ records))
    says_misfit fault w = seen_says seen (Err (Shape fault)) h.all h.all fed records before e h.keeps o
        (misfits_on kept h.all records x fault h.same h.keeps.opens f w)

  module _ (seen : Assembly) (kept fed : List Record) (progress : Progress) (e : record { apex = apex; fed = fed }
      ≡ seen) (h : IsHeld apex kept progress fed) (w : IsComplete (IsWhole seen.apex) seen.fed) where
    pub held_whole : IsWhole seen.apex seen.fed (distinct kept)
    held_whole =
        subst (λ zone. IsWhole seen.apex seen.fed zone) (sym h.same) (seen_whole seen h.all fed progress e h.keeps w)

    pub held_items : (front : List Record) × (last : Record) × (seen.fed ≡ front ++ last ∷ [])
        × (distinct kept ≡ distinct front)
    held_items = let v = seen_items seen h.all fed progress e h.keeps w in (h.all, v.0, v.1, h.same)

  -- the first SOA alone
  pub one_held : (first : Record) → is_apex_soa apex first ≡ true → IsHeld apex (first ∷ []) More (first ∷ [])
  one_held first t = record { all = first ∷ []; same = refl; keeps = one_kept first t }

-- at the end the records that were fed are a whole form
whole_of : (apex : Name) (fed zone : List Record) → Stands (IsWhole apex) Blames fed (complete zone)
    → IsWhole apex fed zone
whole_of apex fed zone (is_complete f) = f

pub ended_whole : (now apex : Name) (progress : Progress) (fed all : List Record) → now ≡ apex → fed ≡ all
    → progress ≡ Ended → Says (Ok progress) (Stands (IsWhole apex) Blames all) → IsComplete (IsWhole now) fed
ended_whole now apex progress fed all h f e s =
    let w : Says (Ok Ended) (Stands (IsWhole apex) Blames all) =
    subst (λ p. Says (Ok p) (Stands (IsWhole apex) Blames all)) e s in
    rw (h, f) (w.0, whole_of apex all w.0 w.1)
