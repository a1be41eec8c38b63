-- A record and its octets give each other.
use Rattle.std.proofs.Common.{◌≡◌, ℕ, ◌+◌, ◌<◌, ◌≤◌, ◌^◌, List, ◌++◌, length, take, drop, refl, sym, ◌∙◌, ap, subst}
use Rattle.std.proofs.Common.{arith, length-append, Ok, Bool, true, false, inl, inr}
use Rattle.std.specs.Prelude.{nat_le, ◌&&◌}
use Rattle.std.proofs.lemmas.Bool.Decides.{nat_tests, leb_tells}
use Rattle.std.proofs.lemmas.List.{take_at, drop_at}
use Rattle.std.proofs.Math.Seq.{drop-append-add}
use Rattle.dz_name.specs.Name.{wire_of, IsName, labels_in}
use Rattle.dz_name.specs.Numbers.{two, four, number_of_four}
use Rattle.dz_name.proofs.NumberLemmas.{number-four}
use Rattle.dz_name.proofs.WireLemmas.{labels_front}
use Rattle.dz_record.specs.Record.{Record, IsRecord, record_octets, octets_behind_owner, ttl_of, record_of}
use Rattle.dz_record.specs.Record.{is_bad_type}
use Rattle.dz_record.specs.Fields.{is_rdata}
use Rattle.dz_record.specs.inner.Kept.{record_in, IsKept, octets_of}

-- what follows the owner
abbrev behind : Record → List ℕ
behind r = octets_behind_owner r

behind_front : (r : Record) → take 4 (behind r) ≡ two r.kind ++ two 1
unfolding two
behind_front r = refl

behind_eight : (r : Record) → drop 8 (behind r) ≡ two (length r.rdata) ++ r.rdata
unfolding two four
behind_eight r = refl

behind_four : (r : Record) → drop 4 (behind r) ≡ four r.ttl ++ (two (length r.rdata) ++ r.rdata)
unfolding two
behind_four r = refl

behind_ten : (r : Record) → drop 10 (behind r) ≡ r.rdata
unfolding two four
behind_ten r = refl

length_behind : (r : Record) → length (behind r) ≡ 10 + length r.rdata
unfolding two four
length_behind r = omega arith

pub length_octets : (r : Record) → length (record_octets r) ≡ length (wire_of r.owner) + (10 + length r.rdata)
length_octets r = omega (arith, length-append (wire_of r.owner) (behind r), length_behind r)

pub take_owner : (r : Record) (n : ℕ) → n ≡ length (wire_of r.owner) → take n (record_octets r) ≡ wire_of r.owner
take_owner r n e = take_at (wire_of r.owner) (behind r) n (sym e)

pub drop_ttl : (r : Record) (n : ℕ) → n ≡ length (wire_of r.owner)
    → drop (n + 4) (record_octets r) ≡ four r.ttl ++ (two (length r.rdata) ++ r.rdata)
drop_ttl r n e = rw (e, drop-append-add (wire_of r.owner) (behind r) 4) (behind_four r)

pub drop_rdata : (r : Record) (n : ℕ) → n ≡ length (wire_of r.owner) → drop (n + 10) (record_octets r) ≡ r.rdata
drop_rdata r n e = rw (e, drop-append-add (wire_of r.owner) (behind r) 10) (behind_ten r)

pub ttl_at : (r : Record) (n : ℕ) → IsRecord r → n ≡ length (wire_of r.owner)
    → number_of_four (drop (n + 4) (record_octets r)) ≡ r.ttl
ttl_at r n is e = rw (drop_ttl r n e) (number-four r.ttl (two (length r.rdata) ++ r.rdata) (omega (arith, is.ttl)))

-- a record is read from its octets
pub record_back : (r : Record) (octets : List ℕ) (n : ℕ) → IsRecord r → octets ≡ record_octets r
    → n ≡ length (wire_of r.owner) → record_in octets n r.kind ≡ r
record_back r octets n is octets_are e =
    let owner : labels_in n octets ≡ r.owner = rw octets_are (labels_front r.owner (behind r) n is.owner e) in
    let ttl : number_of_four (drop (n + 4) octets) ≡ r.ttl = rw octets_are (ttl_at r n is e) in
    let rdata : drop (n + 10) octets ≡ r.rdata = rw octets_are (drop_rdata r n e) in
    λ i. record { owner = owner i; kind = r.kind; ttl = ttl i; rdata = rdata i }

pub kept_from : (r : Record) (octets : List ℕ) (n : ℕ) → IsRecord r → octets ≡ record_octets r
    → n ≡ length (wire_of r.owner) → IsKept octets n r.kind
kept_from r octets n is octets_are e =
    let back = sym (record_back r octets n is octets_are e) in
    record {
      is = subst IsRecord back is;
      octets_are = octets_are ∙ ap record_octets back;
      owner_len_is = e ∙ ap (λ (x : Record). length (wire_of x.owner)) back;
    }

-- what is known of a record that is opened, `xs` its octets
pub record Opened (r : Record) (xs : List ℕ) (n : ℕ) : Type 0 where
  pub is : IsRecord r
  pub octets_are : xs ≡ record_octets r
  pub owner_len_is : n ≡ length (wire_of r.owner)

pub opened : (r : Record) (octets xs : List ℕ) (n kind : ℕ) → IsKept octets n kind → record_in octets n kind ≡ r
    → xs ≡ octets → Opened r xs n
opened r octets xs n kind kept view e =
    record {
      is = subst IsRecord view kept.is;
      octets_are = e ∙ kept.octets_are ∙ ap record_octets view;
      owner_len_is = kept.owner_len_is ∙ ap (λ (x : Record). length (wire_of x.owner)) view;
    }

pub opened_long : (r : Record) (xs : List ℕ) (n : ℕ) → Opened r xs n → n + (10 + length r.rdata) ≡ length xs
opened_long r xs n o = omega (arith, ap length o.octets_are, length_octets r, o.owner_len_is)

pub opened_owner : (r : Record) (xs front : List ℕ) (n : ℕ) → Opened r xs n → front ≡ take n xs
    → front ≡ wire_of r.owner
opened_owner r xs front n o e = e ∙ ap (take n) o.octets_are ∙ take_owner r n o.owner_len_is

pub opened_ttl : (r : Record) (xs back : List ℕ) (n : ℕ) → Opened r xs n → back ≡ drop (n + 4) xs
    → number_of_four back ≡ r.ttl
opened_ttl r xs back n o e = ap number_of_four (e ∙ ap (drop (n + 4)) o.octets_are) ∙ ttl_at r n o.is o.owner_len_is

pub opened_rdata : (r : Record) (xs back : List ℕ) (n : ℕ) → Opened r xs n → back ≡ drop (n + 10) xs → back ≡ r.rdata
opened_rdata r xs back n o e = e ∙ ap (drop (n + 10)) o.octets_are ∙ drop_rdata r n o.owner_len_is

pub opened_kind_and_class : (r : Record) (xs back front : List ℕ) (n : ℕ) → Opened r xs n → back ≡ drop n xs
    → front ≡ take 4 back → front ≡ two r.kind ++ two 1
opened_kind_and_class r xs back front n o b f =
    f ∙ ap (take 4) (b ∙ ap (drop n) o.octets_are ∙ drop_at (wire_of r.owner) (behind r) n (sym o.owner_len_is))
    ∙ behind_front r

pub opened_sized_rdata : (r : Record) (xs back : List ℕ) (n : ℕ) → Opened r xs n → back ≡ drop (n + 8) xs
    → back ≡ two (length r.rdata) ++ r.rdata
opened_sized_rdata r xs back n o b =
    let e : drop (n + 8) (record_octets r) ≡ two (length r.rdata) ++ r.rdata =
    rw (o.owner_len_is, drop-append-add (wire_of r.owner) (behind r) 8) (behind_eight r) in
    b ∙ ap (drop (n + 8)) o.octets_are ∙ e

-- the record of these parts
abbrev pub parts : List (List ℕ) → ℕ → ℕ → List ℕ → Record
parts owner kind ttl rdata = record { owner = owner; kind = kind; ttl = ttl_of ttl; rdata = rdata }

ttl_small : (ttl : ℕ) → ttl_of ttl < 2 ^ 31
ttl_small ttl = grind (arith, nat_tests)

pub parts_are : (owner : List (List ℕ)) (kind ttl : ℕ) (rdata : List ℕ) → IsName owner → kind < 2 ^ 16
    → is_bad_type kind ≡ false → is_rdata kind rdata ≡ true → IsRecord (parts owner kind ttl rdata)
parts_are owner kind ttl rdata name number bad fits =
    record { owner = name; number = number; kind = bad; ttl = ttl_small ttl; rdata = fits }

record_of_parts : (owner : List (List ℕ)) (kind ttl : ℕ) (rdata : List ℕ) → is_bad_type kind ≡ false
    → is_rdata kind rdata ≡ true → record_of owner kind ttl rdata ≡ Ok (parts owner kind ttl rdata)
record_of_parts owner kind ttl rdata bad fits = cc

pub record_of_back : (owner : List (List ℕ)) (kind ttl : ℕ) (rdata octets wire : List ℕ) (n : ℕ)
    → IsRecord (parts owner kind ttl rdata) → wire ≡ wire_of owner → octets ≡ octets_of wire kind (ttl_of ttl) rdata
    → n ≡ length wire
    → record_of owner kind ttl rdata ≡ Ok (record_in octets n kind)
record_of_back owner kind ttl rdata octets wire n is w e n_is =
    record_of_parts owner kind ttl rdata is.kind is.rdata
    ∙ ap (λ r. Ok r) (sym (record_back (parts owner kind ttl rdata) octets n is (rw w at e) (rw w at n_is)))

pub parts_kept : (owner : List (List ℕ)) (kind ttl : ℕ) (rdata octets wire : List ℕ) (n : ℕ)
    → IsRecord (parts owner kind ttl rdata) → wire ≡ wire_of owner → octets ≡ octets_of wire kind (ttl_of ttl) rdata
    → n ≡ length wire
    → IsKept octets n kind
parts_kept owner kind ttl rdata octets wire n is w e n_is =
    kept_from (parts owner kind ttl rdata) octets n is (rw w at e) (rw w at n_is)

second : (s t : Bool) → (s && t) ≡ true → s ≡ true
second true t h = refl
second false t h = absurd (cc)

-- RDATA has at most 65,535 octets
pub rdata_short : (kind : ℕ) (rdata : List ℕ) → is_rdata kind rdata ≡ true → length rdata ≤ 65535
rdata_short kind rdata h =
    let e : nat_le (length rdata) 65535 ≡ true = second (nat_le (length rdata) 65535) _ h in
    elim (leb_tells (length rdata) 65535) [ inl w ↦ w.1 | inr w ↦ absurd (cc) ]
