-- In a zone without records of DNSSEC the sections with DO are those without it.
use Rattle.std.proofs.Common.{◌≡◌, Bool, true, false, List, [], ◌∷◌, ◌++◌, refl, sym, ◌∙◌, ap, length, if◌then◌else◌}
use Rattle.std.specs.Prelude.{◌==◌, ◌||◌, not}
use Rattle.std.specs.List.{flat_map}
use Rattle.std.specs.List.Sorted.{IsStrictlySortedBy}
use Rattle.std.proofs.lemmas.List.{append-nil}
use Rattle.dz_name.specs.Words.{Name, Kind}
use Rattle.dz_name.specs.Name.{same_name}
use Rattle.dz_header.specs.Code.{number_of}
use Rattle.dz_header.specs.declared.code.ResponseCode.TheVariants.{NoError, NxDomain, YxDomain}
use Rattle.dz_record.specs.Record.{Record, record_order}
use Rattle.dz_zone.specs.Version.{Zone, is_secure}
use Rattle.dz_lookup.specs.Found.{Found, here, alias, no_data, no_name, referral, rename}
use Rattle.dz_lookup.specs.Chain.{Trail, Ending, ended, stopped, too_long, led_to, chain_of}
use Rattle.dz_secure.specs.Secure.{signatures, covering, proof}
use Rattle.dz_secure.proofs.SignatureLemmas.{unsigned}
use Rattle.dz_secure.proofs.EvidenceLemmas.{covering_none, no_proof}
use Rattle.dz_reply.specs.Layout.{entry, entries}
use Rattle.dz_reply.specs.Answer.{cname_to, dname_entries, step_entries, entries_behind, trail_entries, own_entries}
use Rattle.dz_reply.specs.Answer.{soa_entries, glue, at_end, of_ending, of_chain, sections_of}
use Rattle.dz_reply.specs.Secure.{is_bare, beside, answer_set, renamer_set, secure_step, secure_trail, gain, gain_all}
use Rattle.dz_reply.specs.Secure.{wildcard_set, wildcard_proofs, first_wildcard, last_wildcard, last_sets, servers_of}
use Rattle.dz_reply.specs.Secure.{signed_soa, authority_sets, own_signed, secure_of_ending, sections_for}

none_if : (c : Bool) (rs : List Record) → rs ≡ [] → (if c then [] else rs) ≡ []
none_if true rs is = refl
none_if false rs is = is

no_entries : (owner : Name) (rs : List Record) → rs ≡ [] → entries owner rs ≡ []
unfolding entries
no_entries owner rs is = rw is refl

gain_nothing : (sets : List (List Record)) (rs : List Record) → rs ≡ [] → gain sets rs ≡ sets
unfolding gain
gain_nothing sets rs is = rw is refl

module _ (zone : Zone) (up : IsStrictlySortedBy record_order zone.records) (none : is_secure zone ≡ false) where
  no_signatures : (owner : Name) (kind : Kind) → signatures zone.records owner kind ≡ []
  no_signatures owner kind = sym (unsigned zone owner kind up none)

  nothing_beside : (bare : Bool) (owner : Name) (r : Record) → beside zone.records bare owner r ≡ []
  nothing_beside bare owner r = none_if bare (entries owner (signatures zone.records r.owner r.kind))
      (no_entries owner (signatures zone.records r.owner r.kind) (no_signatures r.owner r.kind))

  -- the answer section
  set_is : (bare : Bool) (name : Name) (rs : List Record) → answer_set zone.records bare name rs ≡ entries name rs
  unfolding answer_set entries
  set_is bare name [] = refl
  set_is bare name (r ∷ rs) = ap (λ more. entries name (r ∷ rs) ++ more) (nothing_beside bare name r)
      ∙ append-nil (entries name (r ∷ rs))

  renamer_is : (bare : Bool) (before : Trail) (r : Record)
      → renamer_set zone.records bare before r ≡ dname_entries before r
  renamer_is bare before r = rw (nothing_beside false r.owner r) refl

  step_is : (bare : Bool) (before : Trail) (a : Name × Record)
      → secure_step zone.records bare before a ≡ step_entries before a
  unfolding secure_step step_entries
  step_is bare before a = λ i.
      if a.1.kind == 39 then renamer_is bare before a.1 i ++ cname_to a.0 a.1.ttl (led_to a.0 a.1) ∷ []
      else entry a.0 a.1.ttl a.1 ∷ nothing_beside bare a.0 a.1 i

  steps_are : (bare : Bool) (before rest : Trail)
      → secure_trail zone.records bare before rest ≡ entries_behind before rest
  unfolding secure_trail entries_behind
  steps_are bare before [] = refl
  steps_are bare before (a ∷ rest) = λ i. step_is bare before a i ++ steps_are bare (before ++ a ∷ []) rest i

  trail_is : (bare : Bool) (trail : Trail) → secure_trail zone.records bare [] trail ≡ trail_entries trail
  unfolding trail_entries
  trail_is bare trail = steps_are bare [] trail

  -- the authority section
  own_is : (rs : List Record) → own_signed zone.records rs ≡ own_entries rs
  unfolding own_signed own_entries
  own_is [] = refl
  own_is (r ∷ rs) =
      ap (λ more. entries r.owner (r ∷ rs) ++ more) (no_entries r.owner (signatures zone.records r.owner r.kind)
      (no_signatures r.owner r.kind)) ∙ append-nil (entries r.owner (r ∷ rs))

  soa_is : signed_soa zone ≡ soa_entries zone
  unfolding own_entries
  soa_is = ap (λ ss. soa_entries zone ++ own_entries ss) (no_signatures zone.apex 6) ∙ append-nil (soa_entries zone)

  no_wildcard : (a : Name × Record) → wildcard_set zone.records a ≡ []
  no_wildcard a =
      none_if (a.1.kind == 39 || same_name a.1.owner a.0) (covering zone.records a.0) (covering_none zone up none a.0)

  no_first : (name : Name) (rs : List Record) → first_wildcard zone.records name rs ≡ []
  no_first name [] = refl
  no_first name (r ∷ rs) =
      none_if (same_name r.owner name) (covering zone.records name) (covering_none zone up none name)

  no_last : (f : Found) (name : Name) → last_wildcard zone.records f name ≡ []
  no_last (here rs) name = no_first name rs
  no_last (alias r) name = refl
  no_last no_data name = refl
  no_last no_name name = refl
  no_last (referral rs) name = refl
  no_last (rename r) name = refl

  no_gain : (sets : List (List Record)) (trail : Trail) → gain_all sets (wildcard_proofs zone.records trail) ≡ sets
  unfolding gain_all
  no_gain sets [] = refl
  no_gain sets (a ∷ rest) =
      ap (λ s. gain_all s (wildcard_proofs zone.records rest))
      (gain_nothing sets (wildcard_set zone.records a) (no_wildcard a)) ∙ no_gain sets rest

  no_last_gain : (sets : List (List Record)) (f : Found) (name : Name)
      → gain_all sets (last_sets zone.records f name) ≡ sets
  unfolding gain_all
  no_last_gain sets f name =
      let p = no_proof zone up none name f in
      let one : gain sets (last_wildcard zone.records f name) ≡ sets =
      gain_nothing sets (last_wildcard zone.records f name) (no_last f name) in
      let two : gain sets (proof zone.records name f).0 ≡ sets =
      gain_nothing sets (proof zone.records name f).0 (ap (λ q. q.0) p) in
      let three : gain sets (proof zone.records name f).1 ≡ sets =
      gain_nothing sets (proof zone.records name f).1 (ap (λ q. q.1) p) in
      ap (λ s. gain (gain s (proof zone.records name f).0) (proof zone.records name f).1) one
      ∙ (ap (λ s. gain s (proof zone.records name f).1) two ∙ three)

  sets_are : (trail : Trail) (f : Found) (name : Name)
      → authority_sets zone.records trail f name ≡ gain [] (servers_of f)
  sets_are trail f name =
      no_last_gain (gain_all (gain [] (servers_of f)) (wildcard_proofs zone.records trail)) f name
      ∙ no_gain (gain [] (servers_of f)) trail

  servers_are : (rs : List Record) → flat_map (own_signed zone.records) (gain [] rs) ≡ own_entries rs
  unfolding gain own_entries
  servers_are [] = refl
  servers_are (r ∷ rs) = append-nil (own_signed zone.records (r ∷ rs)) ∙ own_is (r ∷ rs)

  authority_is : (trail : Trail) (f : Found) (name : Name)
      → flat_map (own_signed zone.records) (authority_sets zone.records trail f name) ≡ own_entries (servers_of f)
  authority_is trail f name = ap (flat_map (own_signed zone.records)) (sets_are trail f name)
      ∙ servers_are (servers_of f)

  stops_empty : (trail : Trail)
      → flat_map (own_signed zone.records) (gain_all [] (wildcard_proofs zone.records trail)) ≡ []
  stops_empty trail = ap (flat_map (own_signed zone.records)) (no_gain [] trail)

  answer_is : (kind : Kind) (trail : Trail) (name : Name) (rs : List Record) → secure_trail zone.records (is_bare kind)
      [] trail ++ answer_set zone.records (is_bare kind) name rs ≡ trail_entries trail ++ entries name rs
  answer_is kind trail name rs = λ i. trail_is (is_bare kind) trail i ++ set_is (is_bare kind) name rs i

  bare_answer : (kind : Kind) (trail : Trail) (name : Name) → secure_trail zone.records (is_bare kind) [] trail
      ++ answer_set zone.records (is_bare kind) name [] ≡ trail_entries trail
  bare_answer kind trail name = answer_is kind trail name []
      ∙ (ap (λ rs. trail_entries trail ++ rs) (no_entries name [] refl) ∙ append-nil (trail_entries trail))

  no_servers : own_entries [] ≡ []
  unfolding own_entries
  no_servers = refl

  soa_alone : (trail : Trail) (f : Found) (name : Name) → servers_of f ≡ [] → signed_soa zone
      ++ flat_map (own_signed zone.records) (authority_sets zone.records trail f name) ≡ soa_entries zone
  soa_alone trail f name bare =
      ap (λ rs. signed_soa zone ++ rs) (authority_is trail f name ∙ (ap own_entries bare ∙ no_servers))
      ∙ (append-nil (signed_soa zone) ∙ soa_is)

  end_is : (kind : Kind) (trail : Trail) (f : Found) (name : Name)
      → secure_of_ending zone kind trail (ended f name) (at_end zone trail f name) ≡ at_end zone trail f name
  unfolding secure_of_ending at_end
  end_is kind trail (here rs) name = λ i.
      record {
        code = number_of NoError;
        authoritative = true;
        answer = answer_is kind trail name rs i;
        authority = (authority_is trail (here rs) name ∙ no_servers) i;
        additional = [];
      }
  end_is kind trail (alias r) name = λ i.
      record {
        code = number_of NoError;
        authoritative = true;
        answer = bare_answer kind trail name i;
        authority = (authority_is trail (alias r) name ∙ no_servers) i;
        additional = [];
      }
  end_is kind trail (rename r) name = λ i.
      record {
        code = number_of NoError;
        authoritative = true;
        answer = bare_answer kind trail name i;
        authority = (authority_is trail (rename r) name ∙ no_servers) i;
        additional = [];
      }
  end_is kind trail no_data name = λ i.
      record {
        code = number_of NoError;
        authoritative = true;
        answer = bare_answer kind trail name i;
        authority = soa_alone trail no_data name refl i;
        additional = [];
      }
  end_is kind trail no_name name = λ i.
      record {
        code = number_of NxDomain;
        authoritative = true;
        answer = bare_answer kind trail name i;
        authority = soa_alone trail no_name name refl i;
        additional = [];
      }
  end_is kind trail (referral servers) name = λ i.
      record {
        code = number_of NoError;
        authoritative = not (length trail == 0);
        answer = bare_answer kind trail name i;
        authority = authority_is trail (referral servers) name i;
        additional = glue zone servers;
      }

  ending_is : (kind : Kind) (trail : Trail) (ending : Ending)
      → secure_of_ending zone kind trail ending (of_ending zone trail ending) ≡ of_ending zone trail ending
  unfolding secure_of_ending of_ending
  ending_is kind trail (ended f name) = end_is kind trail f name
  ending_is kind trail stopped = λ i.
      record {
        code = number_of NoError;
        authoritative = true;
        answer = trail_is (is_bare kind) trail i;
        authority = stops_empty trail i;
        additional = [];
      }
  ending_is kind trail (too_long r) = λ i.
      record {
        code = number_of YxDomain;
        authoritative = true;
        answer = trail_is (is_bare kind) trail i
            ++ renamer_is (is_bare kind) trail r i;
        authority = stops_empty trail i;
        additional = [];
      }

  pub sections_are : (dnssec : Bool) (name : Name) (kind : Kind)
      → sections_of zone name kind ≡ sections_for dnssec zone name kind
  unfolding sections_for sections_of of_chain
  sections_are false name kind = refl
  sections_are true name kind = sym (ending_is kind (chain_of zone.apex zone.records name kind).trail
      (chain_of zone.apex zone.records name kind).ending)
