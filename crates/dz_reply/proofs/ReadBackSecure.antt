-- What a reply with records of DNSSEC shows are records again.
use Rattle.std.proofs.Common.{inl, inr, ℕ, Bool, true, false, List, [], ◌∷◌, ◌++◌, sym, subst, Option, Some, None}
use Rattle.std.specs.Prelude.{◌==◌, ◌||◌}
use Rattle.std.specs.List.{AllByRecursion, flat_map, list_any}
use Rattle.std.proofs.lemmas.Bool.{cases_Bool}
use Rattle.dz_name.specs.Name.{IsName, same_name, wire_of, wildcard_of}
use Rattle.dz_record.specs.Record.{Record, same_record, IsRecord}
use Rattle.dz_zone.specs.Version.{Zone}
use Rattle.dz_lookup.specs.Found.{Found, here, alias, no_data, no_name, referral, rename, source, encloser}
use Rattle.dz_runs.specs.Runs.{of_type, records_of}
use Rattle.dz_lookup.specs.Chain.{Trail, Ending, ended, stopped, too_long, chain_of}
use Rattle.dz_lookup.specs.inner.Links.{behind}
use Rattle.dz_secure.specs.Secure.{covers, signatures, nsec_of, owner_before, nsec_at, covering, own_or, no_data_proof}
use Rattle.dz_secure.specs.Secure.{no_name_proof, referral_proof, proof}
use Rattle.dz_reply.specs.Layout.{entries}
use Rattle.dz_reply.specs.Answer.{Sections, soa_entries, own_entries, sections_of}
use Rattle.dz_reply.specs.Secure.{is_bare, beside, answer_set, renamer_set, secure_step, secure_trail, stands, gain}
use Rattle.dz_reply.specs.Secure.{gain_all, wildcard_proofs, first_wildcard, last_wildcard, servers_of, signed_soa}
use Rattle.dz_reply.specs.Secure.{soa_of_found, last_sets, authority_sets, own_signed, records_here, secure_of_ending}
use Rattle.dz_reply.specs.Secure.{sections_for}
use Rattle.std.specs.Prelude.{option_map}
use Rattle.dz_reply.proofs.SignedLemmas.{renamer_step}
use Rattle.dz_reply.proofs.ReadBackReplies.{AreHeld}
use Rattle.dz_reply.proofs.ReadBackSections.{each_append, each_filter, each_flat, each_if, each_of_type}
use Rattle.dz_reply.proofs.ReadBackSections.{each_records_of, cname_held, behind_name, shown_as_held, shown_held}
use Rattle.dz_reply.proofs.ReadBackSections.{shown_own_held, soa_held, chain_held, sections_held, IsAliasHeld}
use Rattle.dz_reply.proofs.ReadBackSections.{HoldsFound, HoldsEnding}

abbrev Each : List Record → Type 0
Each rs = AllByRecursion IsRecord rs

abbrev Sets : List (List Record) → Type 0
Sets sets = AllByRecursion Each sets

abbrev Both : List Record × List Record → Type 0
Both p = Each p.0 × Each p.1

-- signatures and proofs are records of the zone
signed_held : (zone : List Record) (owner : List (List ℕ)) (kind : ℕ) → Each zone → Each (signatures zone owner kind)
signed_held zone owner kind held = each_filter IsRecord (covers kind) (of_type 46 (records_of zone owner))
    (each_of_type 46 (records_of zone owner) (each_records_of zone owner held))

nsec_held : (zone : List Record) (name : List (List ℕ)) → Each zone → Each (nsec_of zone name)
nsec_held zone name held = each_of_type 47 (records_of zone name) (each_records_of zone name held)

at_held : (zone : List Record) (o : Option (List (List ℕ))) → Each zone → Each (nsec_at zone o)
at_held zone None held = tt
at_held zone (Some owner) held = nsec_held zone owner held

covering_held : (zone : List Record) (name : List (List ℕ)) → Each zone → Each (covering zone name)
covering_held zone name held = at_held zone (owner_before zone name) held

own_or_held : (own other : List Record) → Each own → Each other → Each (own_or own other)
own_or_held [] other a b = b
own_or_held (r ∷ rs) other a b = a

no_data_held : (zone : List Record) (name : List (List ℕ)) (o : Option (List (List ℕ))) → Each zone
    → Both (no_data_proof zone name o)
no_data_held zone name None held = (tt, tt)
no_data_held zone name (Some node) held = elim (cases_Bool (same_name node name)) [
  | inl t ↦ rw t (
    own_or_held (nsec_of zone name) (covering zone name) (nsec_held zone name held)
        (covering_held zone name held),
    tt,
  )
  | inr f ↦ rw f (nsec_held zone node held, covering_held zone name held)
]

no_name_held : (zone : List Record) (name : List (List ℕ)) (o : Option (List (List ℕ))) → Each zone
    → Both (no_name_proof zone name o)
no_name_held zone name None held = (covering_held zone name held, tt)
no_name_held zone name (Some wildcard) held = (covering_held zone name held, covering_held zone wildcard held)

cut_held : (zone servers : List Record) → Each zone → Both (referral_proof zone servers)
cut_held zone [] held = (tt, tt)
cut_held zone (server ∷ servers) held = (
  own_or_held (of_type 43 (records_of zone server.owner)) (nsec_of zone server.owner)
      (each_of_type 43 (records_of zone server.owner) (each_records_of zone server.owner held))
      (nsec_held zone server.owner held),
  tt,
)

proof_held : (zone : List Record) (name : List (List ℕ)) (f : Found) → Each zone → Both (proof zone name f)
unfolding proof
proof_held zone name no_data held = no_data_held zone name (source zone name) held
proof_held zone name no_name held = no_name_held zone name (option_map wildcard_of (encloser zone name)) held
proof_held zone name (referral servers) held = cut_held zone servers held
proof_held zone name (here rs) held = (tt, tt)
proof_held zone name (alias r) held = (tt, tt)
proof_held zone name (rename r) held = (tt, tt)

-- the answer section
beside_held : (zone : List Record) (bare : Bool) (owner : List (List ℕ)) (r : Record) → IsName owner → Each zone
    → Each (beside zone bare owner r)
beside_held zone true owner r is held = tt
beside_held zone false owner r is held =
    shown_held owner (signatures zone r.owner r.kind) is (signed_held zone r.owner r.kind held)

set_held : (zone : List Record) (bare : Bool) (owner : List (List ℕ)) (rs : List Record) → IsName owner → Each zone
    → Each rs → Each (answer_set zone bare owner rs)
unfolding answer_set
set_held zone bare owner [] is held a = tt
set_held zone bare owner (r ∷ rs) is held a = each_append IsRecord (entries owner (r ∷ rs)) (beside zone bare owner r)
    (shown_held owner (r ∷ rs) is a) (beside_held zone bare owner r is held)

renamer_held : (zone : List Record) (bare : Bool) (before : Trail) (r : Record) → Each zone → IsRecord r
    → Each (renamer_set zone bare before r)
renamer_held zone bare before r held is = elim (cases_Bool (list_any (λ a. same_record a.1 r) before)) [
  | inl t ↦ rw t tt
  | inr f ↦ rw f (shown_as_held r.owner r.ttl r is.owner is.ttl is, beside_held zone false r.owner r is.owner held)
]

step_held : (zone : List Record) (bare : Bool) (before : Trail) (a : List (List ℕ) × Record) → Each zone
    → IsAliasHeld a → Each (secure_step zone bare before a)
unfolding secure_step
step_held zone bare before a zone_held held = elim (cases_Bool (a.1.kind == 39)) [
  | inl t ↦
      let made =
      cname_held a.0 (behind a.0 a.1) a.1.ttl held.name (behind_name a.0 a.1 held.name held.is) held.is.ttl in
      subst (λ rs. Each rs) (sym (renamer_step zone bare before a t))
      (each_append IsRecord (renamer_set zone bare before a.1)
      (record { owner = a.0; kind = 5; ttl = a.1.ttl; rdata = wire_of (behind a.0 a.1) } ∷ [])
      (renamer_held zone bare before a.1 zone_held held.is) (made, tt))
  | inr f ↦ rw f
      (shown_as_held a.0 a.1.ttl a.1 held.name held.is.ttl held.is, beside_held zone bare a.0 a.1 held.name zone_held)
]

trail_held : (zone : List Record) (bare : Bool) (before trail : Trail) → Each zone → AllByRecursion IsAliasHeld trail
    → Each (secure_trail zone bare before trail)
unfolding secure_trail
trail_held zone bare before [] held a = tt
trail_held zone bare before (s ∷ rest) held a =
    each_append IsRecord (secure_step zone bare before s) (secure_trail zone bare (before ++ s ∷ []) rest)
    (step_held zone bare before s held a.0) (trail_held zone bare (before ++ s ∷ []) rest held a.1)

-- the authority section
push_held : (sets : List (List Record)) (rs : List Record) → Sets sets → Each rs → Sets (sets ++ rs ∷ [])
push_held sets rs a b = each_append Each sets (rs ∷ []) a (b, tt)

gain_held : (sets : List (List Record)) (rs : List Record) → Sets sets → Each rs → Sets (gain sets rs)
unfolding gain
gain_held sets [] a b = a
gain_held sets (r ∷ rs) a b = elim (cases_Bool (stands sets r)) [
  | inl t ↦ rw t a
  | inr f ↦ rw f (push_held sets (r ∷ rs) a b)
]

gain_all_held : (sets more : List (List Record)) → Sets sets → Sets more → Sets (gain_all sets more)
unfolding gain_all
gain_all_held sets [] a b = a
gain_all_held sets (rs ∷ more) a b = gain_all_held (gain sets rs) more (gain_held sets rs a b.0) b.1

wildcards_held : (zone : List Record) (trail : Trail) → Each zone → Sets (wildcard_proofs zone trail)
wildcards_held zone [] held = tt
wildcards_held zone (a ∷ rest) held = (
  each_if (a.1.kind == 39 || same_name a.1.owner a.0) [] (covering zone a.0) tt (covering_held zone a.0 held),
  wildcards_held zone rest held,
)

first_held : (zone : List Record) (name : List (List ℕ)) (rs : List Record) → Each zone
    → Each (first_wildcard zone name rs)
first_held zone name [] held = tt
first_held zone name (r ∷ rs) held =
    each_if (same_name r.owner name) [] (covering zone name) tt (covering_held zone name held)

last_held : (zone : List Record) (f : Found) (name : List (List ℕ)) → Each zone → Each (last_wildcard zone f name)
last_held zone (here rs) name held = first_held zone name rs held
last_held zone (alias r) name held = tt
last_held zone no_data name held = tt
last_held zone no_name name held = tt
last_held zone (referral rs) name held = tt
last_held zone (rename r) name held = tt

servers_held : (f : Found) → HoldsFound f → Each (servers_of f)
servers_held (referral rs) h = h
servers_held (here rs) h = tt
servers_held (alias r) h = tt
servers_held no_data h = tt
servers_held no_name h = tt
servers_held (rename r) h = tt

here_held : (f : Found) → HoldsFound f → Each (records_here f)
here_held (here rs) h = h
here_held (referral rs) h = tt
here_held (alias r) h = tt
here_held no_data h = tt
here_held no_name h = tt
here_held (rename r) h = tt

sets_held : (zone : List Record) (trail : Trail) (f : Found) (name : List (List ℕ)) → Each zone → HoldsFound f
    → Sets (authority_sets zone trail f name)
sets_held zone trail f name held h =
    let proofs = proof_held zone name f held in
    gain_all_held (gain_all (gain [] (servers_of f)) (wildcard_proofs zone trail)) (last_sets zone f name)
    (gain_all_held (gain [] (servers_of f)) (wildcard_proofs zone trail)
    (gain_held [] (servers_of f) tt (servers_held f h)) (wildcards_held zone trail held))
    (last_held zone f name held, (proofs.0, (proofs.1, tt)))

own_held : (zone rs : List Record) → Each zone → Each rs → Each (own_signed zone rs)
unfolding own_signed
own_held zone [] held a = tt
own_held zone (r ∷ rs) held a =
    each_append IsRecord (entries r.owner (r ∷ rs))
    (entries r.owner (signatures zone r.owner r.kind)) (shown_held r.owner (r ∷ rs) a.0.owner a)
    (shown_held r.owner (signatures zone r.owner r.kind) a.0.owner (signed_held zone r.owner r.kind held))

all_held : (zone : List Record) (sets : List (List Record)) → Each zone → Sets sets
    → Each (flat_map (own_signed zone) sets)
all_held zone sets held a = each_flat Each IsRecord (own_signed zone) (λ rs h. own_held zone rs held h) sets a

signed_soa_held : (zone : Zone) → Each zone.records → Each (signed_soa zone)
signed_soa_held zone held =
    each_append IsRecord (soa_entries zone) (own_entries (signatures zone.records zone.apex 6)) (soa_held zone held)
    (shown_own_held (signatures zone.records zone.apex 6) (signed_held zone.records zone.apex 6 held))

soa_found_held : (zone : Zone) (f : Found) → Each zone.records → Each (soa_of_found zone f)
soa_found_held zone no_data held = signed_soa_held zone held
soa_found_held zone no_name held = signed_soa_held zone held
soa_found_held zone (here rs) held = tt
soa_found_held zone (alias r) held = tt
soa_found_held zone (referral rs) held = tt
soa_found_held zone (rename r) held = tt

ending_held : (zone : Zone) (kind : ℕ) (trail : Trail) (ending : Ending) (plain : Sections)
    → Each zone.records → AllByRecursion IsAliasHeld trail → HoldsEnding ending → AreHeld plain
    → AreHeld (secure_of_ending zone kind trail ending plain)
unfolding secure_of_ending
ending_held zone kind trail (ended f name) plain held a h p = record {
  answer = each_append IsRecord (secure_trail zone.records (is_bare kind) [] trail) (answer_set zone.records
      (is_bare kind) name (records_here f)) (trail_held zone.records (is_bare kind) [] trail held a)
      (set_held zone.records (is_bare kind) name (records_here f) h.1 held (here_held f h.0));
  authority = each_append IsRecord (soa_of_found zone f) (flat_map (own_signed zone.records)
      (authority_sets zone.records trail f name)) (soa_found_held zone f held) (all_held zone.records
      (authority_sets zone.records trail f name) held (sets_held zone.records trail f name held h.0));
  additional = p.additional;
}
ending_held zone kind trail stopped plain held a h p = record {
  answer = trail_held zone.records (is_bare kind) [] trail held a;
  authority = all_held zone.records (gain_all [] (wildcard_proofs zone.records trail)) held
      (gain_all_held [] (wildcard_proofs zone.records trail) tt (wildcards_held zone.records trail held));
  additional = p.additional;
}
ending_held zone kind trail (too_long r) plain held a h p = record {
  answer = each_append IsRecord (secure_trail zone.records (is_bare kind) [] trail)
      (renamer_set zone.records (is_bare kind) trail r) (trail_held zone.records (is_bare kind) [] trail held a)
      (renamer_held zone.records (is_bare kind) trail r held h);
  authority = all_held zone.records (gain_all [] (wildcard_proofs zone.records trail)) held
      (gain_all_held [] (wildcard_proofs zone.records trail) tt (wildcards_held zone.records trail held));
  additional = p.additional;
}

-- the sections of a zone's answer to a name
pub for_held : (dnssec : Bool) (zone : Zone) (name : List (List ℕ)) (kind : ℕ) → Each zone.records → IsName name
    → AreHeld (sections_for dnssec zone name kind)
unfolding sections_for
for_held false zone name kind held is = sections_held zone name kind held is
for_held true zone name kind held is =
    let chased = chain_held zone.apex zone.records name kind held is in
    ending_held zone kind (chain_of zone.apex zone.records name kind).trail
    (chain_of zone.apex zone.records name kind).ending (sections_of zone name kind) held chased.trail chased.ending
    (sections_held zone name kind held is)
