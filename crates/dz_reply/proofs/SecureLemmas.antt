-- Sections with many records: a header counts them modulo 65,536.
use Rattle.std.proofs.Common.{◌≡◌, ℕ, ◌+◌, ◌%◌, ◌/◌, List, [], ◌∷◌, ◌++◌, length, length-append, refl, sym, ◌∙◌, ap}
use Rattle.std.proofs.Common.{arith, Bool, true, false, zero, suc, Option, Some, None, if◌then◌else◌}
use Rattle.std.specs.Prelude.{◌==◌, not}
use Rattle.std.proofs.lemmas.List.{append-nil}
use Rattle.dz_header.specs.Code.{number_of}
use Rattle.dz_header.specs.declared.code.ResponseCode.TheVariants.{NoError, NxDomain}
use Rattle.dz_lookup.specs.Found.{Found, here, alias, no_data, no_name, referral, rename, found}
use Rattle.dz_lookup.specs.Chain.{Trail, Chased, Ending, ended, stopped, too_long, chain_of, chain_from, next_name}
use Rattle.dz_lookup.specs.Chain.{renamed, is_answered, onward, from_renamed, continuation}
use Rattle.dz_name.specs.Numbers.{two}
use Rattle.dz_header.specs.Edns.{opt_count}
use Rattle.dz_header.specs.Header.{header_octets}
use Rattle.dz_header.specs.Writing.{Writing, also, empty}
use Rattle.dz_request.specs.Frame.{Query, limit_of, head_octets}
use Rattle.dz_name.specs.declared.dns.TheConstants.{TYPE_SOA}
use Rattle.dz_record.specs.Record.{Record, target_of}
use Rattle.dz_zone.specs.Version.{Zone}
use Rattle.dz_secure.specs.Secure.{signatures}
use Rattle.dz_reply.specs.Layout.{entries_octets, entries}
use Rattle.dz_reply.specs.Answer.{Sections, own_entries, soa_entries, glue, only_trail, with_renamer, at_end}
use Rattle.dz_reply.specs.Answer.{of_ending, of_chain, sections_of}
use Rattle.dz_reply.specs.inner.Signed.{answer_signatures}
use Rattle.dz_reply.specs.Secure.{is_bare, beside, answer_set, secure_trail, signed_soa, sets_of, authority_sets}
use Rattle.dz_reply.specs.Secure.{here_with, soa_with, servers_with, secure_of_ending, sections_for}
use Rattle.dz_reply.proofs.AnswerLemmas.{laid, front_octets, head_low, length-entries, length-own_entries}

two_mod : (n : ℕ) → two (n % 65536) ≡ two n
unfolding two
two_mod n =
    let high : n % 65536 / 256 % 256 ≡ n / 256 % 256 = omega arith in
    let low : n % 65536 % 256 ≡ n % 256 = omega arith in
    cc

heads_low : (query : Query) (code : ℕ) (aa tc : Bool) (a b c : ℕ)
    → head_octets query code aa tc (a % 65536) (b % 65536) c ≡ head_octets query code aa tc a b c
unfolding head_octets header_octets
heads_low query code aa tc a b c = rw (two_mod a, two_mod b) refl

pub laid_low : (tcp : Bool) (query : Query) (s : Sections) (a b c : ℕ) (w0 w1 w2 w3 : Writing)
    → a ≡ length s.answer % 65536 → b ≡ length s.authority % 65536 → c ≡ length s.additional % 65536
    → w0 ≡ also (empty (limit_of tcp query.edns))
    (head_octets query s.code s.authoritative false a b (c + opt_count query.edns))
    → w1 ≡ also w0 (entries_octets query.name s.answer) → w2 ≡ also w1 (entries_octets query.name s.authority)
    → w3 ≡ also w2 (entries_octets query.name s.additional)
    → w3 ≡ also (empty (limit_of tcp query.edns)) (front_octets query s)
laid_low tcp query s a b c w0 w1 w2 w3 ea eb ec e0 e1 e2 e3 =
    let low : head_octets query s.code s.authoritative false a b (c + opt_count query.edns) ≡ head_octets query s.code
    s.authoritative false (length s.answer) (length s.authority) (length s.additional + opt_count query.edns) =
    rw (ea, eb, ec) (heads_low query s.code s.authoritative false (length s.answer) (length s.authority)
    (length s.additional % 65536 + opt_count query.edns)
    ∙ head_low query s.code s.authoritative false (length s.answer) (length s.authority) (length s.additional)
    (opt_count query.edns)) in
    laid tcp query s (length s.answer) (length s.authority) (length s.additional) w0 w1 w2 w3 refl refl refl
    (e0 ∙ ap (also (empty (limit_of tcp query.edns))) low) e1 e2 e3

-- .. where two of its counts are low
pub laid_answers : (tcp : Bool) (query : Query) (s : Sections) (a b : ℕ) (w0 w1 w2 w3 : Writing)
    → a ≡ length s.answer % 65536 → b ≡ length s.authority % 65536
    → w0 ≡ also (empty (limit_of tcp query.edns))
    (head_octets query s.code s.authoritative false a b (length s.additional + opt_count query.edns))
    → w1 ≡ also w0 (entries_octets query.name s.answer) → w2 ≡ also w1 (entries_octets query.name s.authority)
    → w3 ≡ also w2 (entries_octets query.name s.additional)
    → w3 ≡ also (empty (limit_of tcp query.edns)) (front_octets query s)
laid_answers tcp query s a b w0 w1 w2 w3 ea eb e0 e1 e2 e3 =
    let low : head_octets query s.code s.authoritative false a b (length s.additional + opt_count query.edns)
    ≡ head_octets query s.code s.authoritative false (length s.answer) (length s.authority)
    (length s.additional + opt_count query.edns) =
    rw (ea, eb) (heads_low query s.code s.authoritative false (length s.answer) (length s.authority)
    (length s.additional + opt_count query.edns)) in
    laid tcp query s (length s.answer) (length s.authority) (length s.additional) w0 w1 w2 w3 refl refl refl
    (e0 ∙ ap (also (empty (limit_of tcp query.edns))) low) e1 e2 e3

-- the records of the last name
beside_is : (zone : List Record) (bare : Bool) (owner : List (List ℕ)) (r : Record) (rs : List Record)
    → beside zone bare owner r ≡ entries owner (answer_signatures zone bare (r ∷ rs))
unfolding entries
beside_is zone true owner r rs = refl
beside_is zone false owner r rs = refl

pub set_is : (zone : List Record) (bare : Bool) (owner : List (List ℕ)) (rs sigs : List Record)
    → sigs ≡ answer_signatures zone bare rs → entries owner rs ++ entries owner sigs ≡ answer_set zone bare owner rs
unfolding answer_set entries
set_is zone bare owner [] sigs is = rw is refl
set_is zone bare owner (r ∷ rs) sigs is = ap (λ ss. entries owner (r ∷ rs) ++ entries owner ss) is
    ∙ ap (λ ss. entries owner (r ∷ rs) ++ ss) (sym (beside_is zone bare owner r rs))

pub set_counted : (zone : List Record) (bare : Bool) (owner : List (List ℕ)) (rs sigs : List Record)
    → sigs ≡ answer_signatures zone bare rs
    → (length rs % 65536 + length sigs % 65536) % 65536 ≡ length (answer_set zone bare owner rs) % 65536
set_counted zone bare owner rs sigs is =
    let e = ap length (set_is zone bare owner rs sigs is) in
    let f = length-append (entries owner rs) (entries owner sigs) in
    omega (arith, e, f, length-entries owner rs, length-entries owner sigs)

-- the SOA and what signs it
pub soa_counted : (zone : Zone) (sigs : List Record) (n : ℕ) → n ≡ length (soa_entries zone) → sigs
    ≡ signatures zone.records zone.apex TYPE_SOA → (n + length sigs % 65536) % 65536 ≡ length (signed_soa zone) % 65536
soa_counted zone sigs n counted sigs_are =
    let f = length-append (soa_entries zone) (own_entries (signatures zone.records zone.apex TYPE_SOA)) in
    omega (arith, counted, f, length-own_entries (signatures zone.records zone.apex TYPE_SOA), ap length sigs_are)

no_set : (zone : Zone) (kind : ℕ) (trail : Trail) (name : List (List ℕ)) → secure_trail zone.records (is_bare kind) []
    trail ≡ secure_trail zone.records (is_bare kind) [] trail ++ answer_set zone.records (is_bare kind) name []
unfolding answer_set
no_set zone kind trail name = sym (append-nil (secure_trail zone.records (is_bare kind) [] trail))

-- what is found for the last name decides the sections
pub ends_empty : (zone : Zone) (kind : ℕ) (trail : Trail) (last : Found) (name : List (List ℕ))
    (sets : List (List Record)) → last ≡ no_data → sets ≡ authority_sets zone.records trail last name
    → soa_with zone kind trail (number_of NoError) sets
    ≡ secure_of_ending zone kind trail (ended last name) (at_end zone trail last name)
unfolding secure_of_ending at_end
ends_empty zone kind trail last name sets is sets_are =
    rw (sets_are, is) (ap (λ rs. record {
      code = number_of NoError;
      authoritative = true;
      answer = rs;
      authority =
          signed_soa zone ++ sets_of zone (authority_sets zone.records trail no_data name);
      additional = [];
    })
    (no_set zone kind trail name))

pub ends_nowhere : (zone : Zone) (kind : ℕ) (trail : Trail) (last : Found) (name : List (List ℕ))
    (sets : List (List Record)) → last ≡ no_name → sets ≡ authority_sets zone.records trail last name
    → soa_with zone kind trail (number_of NxDomain) sets
    ≡ secure_of_ending zone kind trail (ended last name) (at_end zone trail last name)
unfolding secure_of_ending at_end
ends_nowhere zone kind trail last name sets is sets_are =
    rw (sets_are, is) (ap (λ rs. record {
      code = number_of NxDomain;
      authoritative = true;
      answer = rs;
      authority =
          signed_soa zone ++ sets_of zone (authority_sets zone.records trail no_name name);
      additional = [];
    })
    (no_set zone kind trail name))

pub ends_at_cut : (zone : Zone) (kind : ℕ) (trail : Trail) (last : Found) (name : List (List ℕ))
    (sets : List (List Record)) (servers : List Record) → last ≡ referral servers
    → sets ≡ authority_sets zone.records trail last name
    → servers_with zone kind trail servers sets
    ≡ secure_of_ending zone kind trail (ended last name) (at_end zone trail last name)
unfolding secure_of_ending at_end
ends_at_cut zone kind trail last name sets servers is sets_are =
    let none : secure_trail zone.records (is_bare kind) [] trail ≡ secure_trail zone.records (is_bare kind) [] trail
    ++ answer_set zone.records (is_bare kind) name [] = no_set zone kind trail name in
    rw (sets_are, is) (ap (λ rs. record {
      code = number_of NoError;
      authoritative = not (length trail == 0);
      answer = rs;
      authority = sets_of zone (authority_sets zone.records trail (referral servers) name);
      additional = glue zone servers;
    }) none)

pub ends_alone : (zone : Zone) (kind : ℕ) (trail : Trail) (last : Found) (name : List (List ℕ)) (rs : List Record)
    → last ≡ here rs → [] ≡ authority_sets zone.records trail last name
    → here_with zone kind trail name rs []
    ≡ secure_of_ending zone kind trail (ended last name) (at_end zone trail last name)
unfolding secure_of_ending at_end
ends_alone zone kind trail last name rs is none =
    let e : [] ≡ authority_sets zone.records trail (here rs) name = rw is at none in
    rw (is, ← e) refl

pub for_plain : (dnssec : Bool) (zone : Zone) (name : List (List ℕ)) (kind : ℕ) → dnssec ≡ false
    → sections_of zone name kind ≡ sections_for dnssec zone name kind
unfolding sections_for
for_plain dnssec zone name kind is = rw is refl

for_secure : (dnssec : Bool) (zone : Zone) (name : List (List ℕ)) (kind : ℕ) (trail : Trail) (ending : Ending)
    → dnssec ≡ true → trail ≡ (chain_of zone.apex zone.records name kind).trail
    → ending ≡ (chain_of zone.apex zone.records name kind).ending
    → secure_of_ending zone kind trail ending (of_ending zone trail ending) ≡ sections_for dnssec zone name kind
unfolding sections_for sections_of of_chain
for_secure dnssec zone name kind trail ending is e f = rw (e, f, is) refl

pub for_stopped : (dnssec : Bool) (zone : Zone) (name : List (List ℕ)) (kind : ℕ) (trail : Trail)
    → dnssec ≡ true → trail ≡ (chain_of zone.apex zone.records name kind).trail
    → stopped ≡ (chain_of zone.apex zone.records name kind).ending
    → secure_of_ending zone kind trail stopped (only_trail trail) ≡ sections_for dnssec zone name kind
unfolding of_ending
for_stopped dnssec zone name kind trail is e f = for_secure dnssec zone name kind trail stopped is e f

pub for_too_long : (dnssec : Bool) (zone : Zone) (name : List (List ℕ)) (kind : ℕ) (trail : Trail) (r : Record)
    → dnssec ≡ true → trail ≡ (chain_of zone.apex zone.records name kind).trail
    → too_long r ≡ (chain_of zone.apex zone.records name kind).ending
    → secure_of_ending zone kind trail (too_long r) (with_renamer trail r) ≡ sections_for dnssec zone name kind
unfolding of_ending
for_too_long dnssec zone name kind trail r is e f = for_secure dnssec zone name kind trail (too_long r) is e f

pub for_ended : (dnssec : Bool) (zone : Zone) (name : List (List ℕ)) (kind : ℕ) (trail : Trail) (last : Found)
    (end : List (List ℕ)) → dnssec ≡ true → trail ≡ (chain_of zone.apex zone.records name kind).trail
    → ended last end ≡ (chain_of zone.apex zone.records name kind).ending → secure_of_ending zone kind trail
    (ended last end) (at_end zone trail last end) ≡ sections_for dnssec zone name kind
unfolding of_ending
for_ended dnssec zone name kind trail last end is e f = for_secure dnssec zone name kind trail (ended last end) is e f

-- what a chain ends with is what is found for its last name
abbrev EndsFound : List (List ℕ) → List Record → ℕ → Chased → Type 0
EndsFound apex zone kind c = (f : Found) (n : List (List ℕ)) → ended f n ≡ c.ending → f ≡ found apex zone n kind

onward_found : (apex : List (List ℕ)) (zone : List Record) (kind : ℕ) (next : Trail → List (List ℕ) → Chased)
    (trail : Trail) (name : Option (List (List ℕ)))
    → ((more : Trail) (n : List (List ℕ)) → EndsFound apex zone kind (next more n))
    → EndsFound apex zone kind (onward next trail name)
onward_found apex zone kind next trail None step f n e = absurd (cc)
onward_found apex zone kind next trail (Some name) step f n e = step trail name f n e

renamed_found : (apex : List (List ℕ)) (zone : List Record) (kind : ℕ) (next : Trail → List (List ℕ) → Chased)
    (trail : Trail) (name : List (List ℕ)) (r : Record) (new : Option (List (List ℕ)))
    → ((more : Trail) (n : List (List ℕ)) → EndsFound apex zone kind (next more n))
    → EndsFound apex zone kind (from_renamed next apex kind trail name r new)
renamed_found apex zone kind next trail name r None step f n e = absurd (cc)
renamed_found apex zone kind next trail name r (Some new) step f n e =
    let more : Trail = trail ++ (name, r) ∷ [] in
    onward_found apex zone kind next more
    (if is_answered kind then None else next_name apex more (Some new)) step f n e

ended_found : (apex : List (List ℕ)) (zone : List Record) (kind : ℕ) (name : List (List ℕ)) (at : Found)
    → at ≡ found apex zone name kind → (f : Found) (n : List (List ℕ)) → ended f n ≡ ended at name
    → f ≡ found apex zone n kind
ended_found apex zone kind name at is f n e =
    let a : f ≡ at = cc in
    let b : n ≡ name = cc in
    a ∙ is ∙ ap (λ x. found apex zone x kind) (sym b)

followed_found : (apex : List (List ℕ)) (zone : List Record) (kind : ℕ) (next : Trail → List (List ℕ) → Chased)
    (trail : Trail) (name : List (List ℕ)) (at : Found) → at ≡ found apex zone name kind
    → ((more : Trail) (n : List (List ℕ)) → EndsFound apex zone kind (next more n))
    → EndsFound apex zone kind (continuation next apex kind trail name at)
followed_found apex zone kind next trail name (alias r) is step f n e =
    let more : Trail = trail ++ (name, r) ∷ [] in
    onward_found apex zone kind next more (next_name apex more (target_of r)) step f n e
followed_found apex zone kind next trail name (rename r) is step f n e =
    renamed_found apex zone kind next trail name r (renamed name r) step f n e
followed_found apex zone kind next trail name (here rs) is step f n e =
    ended_found apex zone kind name (here rs) is f n e
followed_found apex zone kind next trail name no_data is step f n e = ended_found apex zone kind name no_data is f n e
followed_found apex zone kind next trail name no_name is step f n e = ended_found apex zone kind name no_name is f n e
followed_found apex zone kind next trail name (referral rs) is step f n e =
    ended_found apex zone kind name (referral rs) is f n e

chain_found : (left : ℕ) (apex : List (List ℕ)) (zone : List Record) (kind : ℕ) (trail : Trail) (name : List (List ℕ))
    → EndsFound apex zone kind (chain_from left apex zone kind trail name)
unfolding chain_from
chain_found zero apex zone kind trail name f n e = absurd (cc)
chain_found (suc left) apex zone kind trail name f n e =
    followed_found apex zone kind (chain_from left apex zone kind) trail name (found apex zone name kind) refl
    (λ more m. chain_found left apex zone kind more m) f n e

pub ends_found : (apex : List (List ℕ)) (zone : List Record) (name : List (List ℕ)) (kind : ℕ) (f : Found)
    (n : List (List ℕ)) → ended f n ≡ (chain_of apex zone name kind).ending → f ≡ found apex zone n kind
unfolding chain_of
ends_found apex zone name kind f n e = chain_found 16 apex zone kind [] name f n e
