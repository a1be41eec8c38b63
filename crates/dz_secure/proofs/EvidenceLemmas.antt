-- What proves a case, by what is found at its owners; in a zone without records of DNSSEC nothing does.
use Rattle.std.proofs.Common.{arith, ◌≡◌, ℕ, true, false, List, [], ◌∷◌, refl, sym, ◌∙◌, ap, length, inl, inr, Option}
use Rattle.std.proofs.Common.{Some, None}
use Rattle.std.specs.Prelude.{◌==◌, option_map}
use Rattle.std.specs.List.Sorted.{IsStrictlySortedBy}
use Rattle.std.proofs.lemmas.Bool.{cases_Bool, false≢true}
use Rattle.std.proofs.lemmas.Bool.Decides.{nat_tests}
use Rattle.dz_name.specs.Words.{Name}
use Rattle.dz_name.specs.Name.{same_name, wildcard_of}
use Rattle.dz_name.specs.Order.{same_decides}
use Rattle.dz_record.specs.Record.{Record, record_order}
use Rattle.dz_zone.specs.Version.{Zone, is_secure, is_of_dnssec}
use Rattle.dz_runs.specs.Runs.{of_type, records_of}
use Rattle.dz_lookup.specs.Found.{Found, here, alias, no_data, no_name, referral, rename, source, encloser}
use Rattle.dz_runs.proofs.InOrder.{no_run}
use Rattle.dz_secure.specs.Secure.{owner_before, nsec_at, nsec_of, covering, own_or, no_data_proof, no_name_proof}
use Rattle.dz_secure.specs.Secure.{referral_proof, proof}
use Rattle.dz_secure.proofs.SignatureLemmas.{none_owned}

pub own_gone : (own other : List Record) → true ≡ (length own == 0) → own_or own other ≡ other
own_gone [] other none = refl
own_gone (r ∷ rs) other none =
    let test : length (r ∷ rs) == 0 ≡ false = grind (arith, nat_tests) in
    absurd (false≢true (sym test ∙ sym none))

pub own_there : (own other : List Record) → false ≡ (length own == 0) → own_or own other ≡ own
own_there [] other some = absurd (false≢true some)
own_there (r ∷ rs) other some = refl

-- a type that isn't there, by the NSEC of the node
module _ (zone : List Record) (name node : Name) (own : List Record) (is : own ≡ nsec_of zone node) where
  pub elsewhere : same_name node name ≡ false → no_data_proof zone name (Some node) ≡ (own, covering zone name)
  elsewhere other = rw (other, is) refl

  pub gone_here : same_name node name ≡ true → true ≡ (length own == 0)
      → no_data_proof zone name (Some node) ≡ (covering zone name, [])
  gone_here same none =
      let e : node ≡ name = (same_decides node name).0 same in
      let there : own ≡ nsec_of zone name = is ∙ ap (nsec_of zone) e in
      let other : own_or (nsec_of zone name) (covering zone name) ≡ covering zone name =
      own_gone (nsec_of zone name) (covering zone name) (none ∙ ap (λ rs. length rs == 0) there) in
      rw (same, other) refl

  pub there_here : same_name node name ≡ true → false ≡ (length own == 0)
      → no_data_proof zone name (Some node) ≡ (own, [])
  there_here same some =
      let e : node ≡ name = (same_decides node name).0 same in
      let there : own ≡ nsec_of zone name = is ∙ ap (nsec_of zone) e in
      let kept : own_or (nsec_of zone name) (covering zone name) ≡ nsec_of zone name =
      own_there (nsec_of zone name) (covering zone name) (some ∙ ap (λ rs. length rs == 0) there) in
      rw (same, kept, there) refl

-- a zone without records of DNSSEC
module _ (zone : Zone) (up : IsStrictlySortedBy record_order zone.records) (none : is_secure zone ≡ false) where
  none_of : (kind : ℕ) (name : Name) → is_of_dnssec kind ≡ true → of_type kind (records_of zone.records name) ≡ []
  none_of kind name of_dnssec = sym (no_run zone.records name kind up (none_owned zone name kind of_dnssec none))

  pub covering_none : (name : Name) → covering zone.records name ≡ []
  covering_none name = at_owner (owner_before zone.records name)
    where
      at_owner : (o : Option Name) → nsec_at zone.records o ≡ []
      at_owner None = refl
      at_owner (Some owner) = none_of 47 owner refl

  no_data_none : (name : Name) (o : Option Name) → no_data_proof zone.records name o ≡ ([], [])
  no_data_none name None = refl
  no_data_none name (Some node) = elim (cases_Bool (same_name node name)) [
    | inl same ↦ rw (same, none_of 47 name refl, covering_none name) refl
    | inr other ↦ rw (other, none_of 47 node refl, covering_none name) refl
  ]

  no_name_none : (name : Name) (o : Option Name) → no_name_proof zone.records name o ≡ ([], [])
  no_name_none name None = rw (covering_none name) refl
  no_name_none name (Some wildcard) = rw (covering_none name, covering_none wildcard) refl

  referral_none : (servers : List Record) → referral_proof zone.records servers ≡ ([], [])
  referral_none [] = refl
  referral_none (server ∷ servers) = rw (none_of 43 server.owner refl, none_of 47 server.owner refl) refl

  pub no_proof : (name : Name) (f : Found) → proof zone.records name f ≡ ([], [])
  unfolding proof
  no_proof name (here rs) = refl
  no_proof name (alias r) = refl
  no_proof name no_data = no_data_none name (source zone.records name)
  no_proof name no_name = no_name_none name (option_map wildcard_of (encloser zone.records name))
  no_proof name (referral servers) = referral_none servers
  no_proof name (rename r) = refl
