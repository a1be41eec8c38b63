-- What is read to an end is a whole form of differences.
use Rattle.std.proofs.Common.{◌≡◌, ◌≢◌, ℕ, zero, suc, ◌<◌, true, false, List, [], ◌∷◌, ◌++◌, length, refl, sym, ◌∙◌}
use Rattle.std.proofs.Common.{ap, append_assoc, inl, inr, arith, length-append, eq-eqb}
use Rattle.std.proofs.lemmas.Bool.{cases_Bool, both_ways, eqb-true}
use Rattle.std.specs.Prelude.{◌==◌}
use Rattle.std.specs.Str.{bytes_eq}
use Rattle.std.specs.List.{flat_map}
use Rattle.dz_name.specs.Words.{Name}
use Rattle.dz_record.specs.Record.{Record}
use Rattle.dz_record.specs.Records.{insertion}
use Rattle.dz_zone.specs.Version.{Zone}
use Rattle.dz_xfr.specs.declared.fault.ShapeFault.TheVariants.{NotSoaFirst, SerialGap, DeleteMissing, AddPresent}
use Rattle.dz_xfr.specs.Apex.{is_apex_soa, serial_of, held_serial}
use Rattle.dz_xfr.specs.Place.{amid, ended}
use Rattle.dz_xfr.proofs.ReadingLemmas.{ended_alone, failed_not_ended}
use Rattle.dz_ixfr.specs.Incremental.{is_there, without, Deletes, Adds, HasNoSoa, Difference, spelled, IsDifference}
use Rattle.dz_ixfr.specs.Incremental.{Leads, leads_last, leads_on, others, IsIncremental}
use Rattle.dz_ixfr.specs.Reading.{begun, deleting, adding, one, place_of}
use Rattle.dz_ixfr.proofs.ToEnd.{octets_are, go, step_first}

pub apart : (a b : ℕ) → (a == b) ≡ false → a ≢ b
apart a b f e = both_ways (a == b) f (eq-eqb a b e)

shorter : (n : ℕ) (deleted added more rest : List Record) (new next : Record)
    → rest ≡ deleted ++ new ∷ (added ++ next ∷ more) → length rest < suc n → length more < n
shorter n deleted added more rest new next e h = omega (arith, simp length-append at (ap length e))

spelled_join : (d : Difference) (rest more : List Record) → rest ≡ d.deleted ++ d.new ∷ (d.added ++ more)
    → d.old ∷ rest ≡ spelled d ++ more
spelled_join d rest more e = rw e (ap (λ l. d.old ∷ l) (sym (append_assoc d.deleted (d.new ∷ d.added) more)))

one_more : (d : Difference) (ds : List Difference) (rest more : List Record) (last : Record) → rest ≡ spelled d ++ more
    → more ≡ flat_map spelled ds ++ last ∷ [] → rest ≡ flat_map spelled (d ∷ ds) ++ last ∷ []
one_more d ds rest more last e f =
    e ∙ (ap (λ l. spelled d ++ l) f ∙ sym (append_assoc (spelled d) (flat_map spelled ds) (last ∷ [])))

module _ (apex : Name) where
  -- deleted records, and an SOA after them
  record Deleted (first : Record) (zone rest end : List Record) : Type 0 where
    deleted : List Record
    middle : List Record
    new : Record
    more : List Record
    are : rest ≡ deleted ++ new ∷ more
    no_soa : HasNoSoa apex deleted
    deletes : Deletes zone deleted middle
    is_new : is_apex_soa apex new ≡ true
    ends : go apex (amid (adding first (serial_of new) middle)) more ≡ ended end

  split_deleted : (first : Record) (zone rest end : List Record)
      → go apex (amid (deleting first zone)) rest ≡ ended end → Deleted first zone rest end
  split_deleted first zone [] end e = absurd (cc)
  split_deleted first zone (r ∷ rest) end e =
      elim (cases_Bool (is_apex_soa apex r)) [
        | inl t ↦ record {
          deleted = [];
          middle = zone;
          new = r;
          more = rest;
          are = refl;
          no_soa = tt;
          deletes = refl;
          is_new = t;
          ends = rw t at e;
        }
        | inr f ↦
            elim (cases_Bool (is_there r zone)) [
              | inr g ↦ absurd (failed_not_ended (one apex) DeleteMissing rest end (rw (f, g) at e))
              | inl t ↦
                  let w = split_deleted first (without r zone) rest end (rw (f, t) at e) in
                  record {
                    deleted = r ∷ w.deleted;
                    middle = w.middle;
                    new = w.new;
                    more = w.more;
                    are = ap (λ l. r ∷ l) w.are;
                    no_soa = (f, w.no_soa);
                    deletes = (t, w.deletes);
                    is_new = w.is_new;
                    ends = w.ends;
                  }
            ]
      ]

  -- added records, and an SOA after them
  record Added (first : Record) (serial : ℕ) (zone rest end : List Record) : Type 0 where
    added : List Record
    after : List Record
    next : Record
    more : List Record
    are : rest ≡ added ++ next ∷ more
    no_soa : HasNoSoa apex added
    adds : Adds zone added after
    is_next : is_apex_soa apex next ≡ true
    ends : go apex (one apex (adding first serial after) next) more ≡ ended end

  split_added : (first : Record) (serial : ℕ) (zone rest end : List Record)
      → go apex (amid (adding first serial zone)) rest ≡ ended end → Added first serial zone rest end
  split_added first serial zone [] end e = absurd (cc)
  split_added first serial zone (r ∷ rest) end e =
      elim (cases_Bool (is_apex_soa apex r)) [
        | inl t ↦ record {
          added = [];
          after = zone;
          next = r;
          more = rest;
          are = refl;
          no_soa = tt;
          adds = refl;
          is_next = t;
          ends = e;
        }
        | inr f ↦
            elim (cases_Bool (is_there r zone)) [
              | inl t ↦ absurd (failed_not_ended (one apex) AddPresent rest end (rw (f, t) at e))
              | inr g ↦
                  let w = split_added first serial (insertion r zone) rest end (rw (f, g) at e) in
                  record {
                    added = r ∷ w.added;
                    after = w.after;
                    next = w.next;
                    more = w.more;
                    are = ap (λ l. r ∷ l) w.are;
                    no_soa = (f, w.no_soa);
                    adds = (g, w.adds);
                    is_next = w.is_next;
                    ends = w.ends;
                  }
            ]
      ]

  -- differences and the closing SOA, after an SOA of the serial
  record Rest (first : Record) (serial : ℕ) (zone records end : List Record) : Type 0 where
    differences : List Difference
    last : Record
    after : List Record
    are : records ≡ flat_map spelled differences ++ last ∷ []
    leads : Leads apex (serial_of first) serial zone differences after
    closes : is_apex_soa apex last ≡ true
    same : last.rdata ≡ first.rdata
    end_is : end ≡ insertion first after

  at_close : (first next : Record) (serial : ℕ) (after more end : List Record) → is_apex_soa apex next ≡ true
      → serial ≡ serial_of first → go apex (one apex (adding first serial after) next) more ≡ ended end
      → (next.rdata ≡ first.rdata) × (more ≡ []) × (insertion first after ≡ end)
  at_close first next serial after more end t s e =
      elim (cases_Bool (bytes_eq next.rdata first.rdata)) [
        | inr f ↦
            absurd (failed_not_ended (one apex) SerialGap more end (rw (t, eq-eqb serial (serial_of first) s, f) at e))
        | inl b ↦
            let k = ended_alone (one apex) (insertion first after) end more
            (rw (t, eq-eqb serial (serial_of first) s, b) at e) in
            (octets_are next.rdata first.rdata b, k.0, k.1)
      ]

  at_next : (first next : Record) (serial : ℕ) (after more end : List Record) → is_apex_soa apex next ≡ true
      → (serial == serial_of first) ≡ false → go apex (one apex (adding first serial after) next) more ≡ ended end
      → (serial_of next ≡ serial) × (go apex (amid (deleting first after)) more ≡ ended end)
  at_next first next serial after more end t s e =
      elim (cases_Bool (serial_of next == serial)) [
        | inr f ↦ absurd (failed_not_ended (one apex) SerialGap more end (rw (t, s, f) at e))
        | inl b ↦ (eqb-true (serial_of next) serial b, rw (t, s, b) at e)
      ]

  rest_from : (n : ℕ) (first old : Record) (serial : ℕ) (zone rest end : List Record) → length rest < n
      → is_apex_soa apex old ≡ true → serial_of old ≡ serial → go apex (amid (deleting first zone)) rest ≡ ended end
      → Rest first serial zone (old ∷ rest) end
  rest_from zero first old serial zone rest end h t s e = absurd (omega arith)
  rest_from (suc n) first old serial zone rest end h t s e =
      let w = split_deleted first zone rest end e in
      let v = split_added first (serial_of w.new) w.middle w.more end w.ends in
      let d : Difference = record { old = old; deleted = w.deleted; new = w.new; added = v.added } in
      let i : IsDifference apex serial zone d v.after = record {
        old = t;
        old_serial = s;
        deleted = w.no_soa;
        middle = w.middle;
        deletes = w.deletes;
        new = w.is_new;
        added = v.no_soa;
        adds = v.adds;
      } in
      let are : old ∷ rest ≡ spelled d ++ v.next ∷ v.more =
      spelled_join d rest (v.next ∷ v.more) (w.are ∙ ap (λ l. w.deleted ++ w.new ∷ l) v.are) in
      elim (cases_Bool (serial_of w.new == serial_of first)) [
        | inl b ↦
            let g = eqb-true (serial_of w.new) (serial_of first) b in
            let k = at_close first v.next (serial_of w.new) v.after v.more end v.is_next g v.ends in
            record {
              differences = d ∷ [];
              last = v.next;
              after = v.after;
              are = one_more d [] (old ∷ rest) (v.next ∷ v.more) v.next are (ap (λ l. v.next ∷ l) k.1);
              leads = leads_last i g;
              closes = v.is_next;
              same = k.0;
              end_is = sym k.2;
            }
        | inr b ↦
            let k = at_next first v.next (serial_of w.new) v.after v.more end v.is_next b v.ends in
            let short = shorter n w.deleted v.added v.more rest w.new v.next
            (w.are ∙ ap (λ l. w.deleted ++ w.new ∷ l) v.are) h in
            let u = rest_from n first v.next (serial_of w.new) v.after v.more end short v.is_next k.0 k.1 in
            record {
              differences = d ∷ u.differences;
              last = u.last;
              after = u.after;
              are = one_more d u.differences (old ∷ rest) (v.next ∷ v.more) u.last are u.are;
              leads = leads_on v.after i (apart (serial_of w.new) (serial_of first) b) u.leads;
              closes = u.closes;
              same = u.same;
              end_is = u.end_is;
            }
      ]

  -- after the first SOA
  rest_behind : (first : Record) (serial : ℕ) (stock rest end : List Record)
      → go apex (amid (begun first serial stock)) rest ≡ ended end → Rest first serial stock rest end
  rest_behind first serial stock [] end e = absurd (cc)
  rest_behind first serial stock (old ∷ rest) end e =
      elim (cases_Bool (is_apex_soa apex old)) [
        | inr f ↦ absurd (failed_not_ended (one apex) SerialGap rest end (rw f at e))
        | inl o ↦
            elim (cases_Bool (serial_of old == serial)) [
              | inr f ↦ absurd (failed_not_ended (one apex) SerialGap rest end (rw (o, f) at e))
              | inl b ↦ rest_from (suc (length rest)) first old serial stock rest end (omega arith) o
                  (eqb-true (serial_of old) serial b) (rw (o, b) at e)
            ]
      ]

pub from_end : (held : Zone) (records zone : List Record) → place_of held records ≡ ended zone
    → IsIncremental held records zone
from_end held [] zone e = absurd (cc)
from_end held (first ∷ rest) zone e =
    elim (cases_Bool (is_apex_soa held.apex first)) [
      | inr f ↦ absurd (failed_not_ended (one held.apex) NotSoaFirst rest zone (rw f at e))
      | inl t ↦
          let w = rest_behind held.apex first (held_serial held) (others held) rest zone (ap (λ p. go held.apex p rest)
          (sym (step_first held.apex first (held_serial held) (others held) t)) ∙ e) in
          record {
            first = first;
            differences = w.differences;
            last = w.last;
            after = w.after;
            are = ap (λ l. first ∷ l) w.are;
            opens = t;
            leads = w.leads;
            closes = w.closes;
            same = w.same;
            zone_is = w.end_is;
          }
    ]
