-- How aliases and renamed names are followed.
use Rattle.std.proofs.Common.{◌≡◌, ℕ, ◌+◌, ◌-◌, ◌<◌, zero, suc, Bool, true, false, List, [], ◌∷◌, ◌++◌, length, refl}
use Rattle.std.proofs.Common.{sym, ◌∙◌, ap, subst, arith, inl, inr}
use Rattle.std.specs.Prelude.{Option, Some, None, nat_lt, ◌==◌, ◌&&◌, ◌⊎◌, not, if◌then◌else◌}
use Rattle.std.proofs.lemmas.Bool.{cases_Bool, eqb-true}
use Rattle.dz_name.specs.Words.{Name}
use Rattle.dz_name.specs.Name.{is_within}
use Rattle.dz_record.specs.Record.{Record, target_of}
use Rattle.dz_runs.specs.Runs.{of_type, records_of}
use Rattle.dz_lookup.specs.Found.{Found, here, alias, no_data, no_name, referral, rename, found, leading, here_or}
use Rattle.dz_lookup.specs.Found.{at_source, source, renaming, barrier, behind_barrier, cut_for, dname}
use Rattle.dz_lookup.specs.Chain.{Trail, Chased, stopped, ended, too_long, next_name, was_looked_up, led_to, renamed}
use Rattle.dz_lookup.specs.Chain.{is_answered, onward, from_renamed, continuation, chain_from, chain_of}

chosen : (b : Bool) (target name : List (List ℕ)) → (if b then Some target else None) ≡ Some name
    → (b ≡ true) × (target ≡ name)
chosen true target name h = (refl, cc)
chosen false target name h = absurd (cc)

first : (s t : Bool) → (s && t) ≡ true → s ≡ true
first true t h = refl
first false t h = absurd (cc)

and_false : (b : Bool) → (b && false) ≡ false
and_false true = refl
and_false false = refl

pub next_some : (apex : Name) (trail : Trail) (target : Name) → is_within target apex ≡ true
    → was_looked_up trail target ≡ false
    → next_name apex trail (Some target) ≡ Some target
next_some apex trail target inside new = rw (inside, new) refl

pub next_outside : (apex : Name) (trail : Trail) (target : Name) → is_within target apex ≡ false
    → next_name apex trail (Some target) ≡ None
next_outside apex trail target outside = rw outside refl

pub next_seen : (apex : Name) (trail : Trail) (target : Name) → was_looked_up trail target ≡ true
    → next_name apex trail (Some target) ≡ None
next_seen apex trail target seen = rw (seen, and_false (is_within target apex)) refl

pub next_within : (apex : Name) (trail : Trail) (target : Name) → next_name apex trail (Some target) ≡ Some target
    → is_within target apex ≡ true
next_within apex trail target h =
    let w = chosen (is_within target apex && not (was_looked_up trail target)) target target h in
    first (is_within target apex) (not (was_looked_up trail target)) w.0

-- the types of the records that lead on
of_kind : (kind : ℕ) (rs : List Record) (r : Record) (rest : List Record) → of_type kind rs ≡ r ∷ rest → r.kind ≡ kind
of_kind kind [] r rest e = absurd (cc)
of_kind kind (s ∷ ss) r rest e = elim (cases_Bool (s.kind == kind)) [
  | inl t ↦ let f : s ∷ of_type kind ss ≡ r ∷ rest = rw t at e in
      let g : s ≡ r = cc in
      rw (← g) (eqb-true s.kind kind t)
  | inr n ↦ of_kind kind ss r rest (rw n at e)
]

alias_in : (rs ss : List Record) (r : Record) → here_or rs (of_type 5 ss) ≡ alias r → r.kind ≡ 5
alias_in (x ∷ xs) ss r e = absurd (cc)
alias_in [] ss r e = go (of_type 5 ss) refl
  where
    go : (ts : List Record) → of_type 5 ss ≡ ts → r.kind ≡ 5
    go [] f = let g = rw f at e in absurd (cc)
    go (t ∷ ts) f = let g = rw f at e in let h : t ≡ r = cc in rw (← h) (of_kind 5 ss t ts f)

no_rename_in : (rs ss : List Record) (r : Record) → here_or rs ss ≡ rename r → ⊥
no_rename_in (x ∷ xs) ss r e = cc
no_rename_in [] (s ∷ ss) r e = cc
no_rename_in [] [] r e = cc

rename_in : (rs : List Record) (r : Record) → renaming (of_type 39 rs) ≡ rename r → r.kind ≡ 39
rename_in rs r e = go (of_type 39 rs) refl
  where
    go : (ts : List Record) → of_type 39 rs ≡ ts → r.kind ≡ 39
    go [] f = let g = rw f at e in absurd (cc)
    go (t ∷ ts) f = let g = rw f at e in let h : t ≡ r = cc in rw (← h) (of_kind 39 rs t ts f)

-- what a barrier is
in_barrier : (zone : List Record) (at above : Option Name) (f : Found) → barrier zone at above ≡ Some f
    → ((rs : List Record) × (f ≡ referral rs)) ⊎ ((rs : List Record) × (f ≡ renaming (of_type 39 rs)))
in_barrier zone None None f e = absurd (cc)
in_barrier zone None (Some above) f e = inr (records_of zone above, cc)
in_barrier zone (Some at) None f e = inl (of_type 2 (records_of zone at), cc)
in_barrier zone (Some at) (Some above) f e = elim (cases_Bool (nat_lt (length above) (length at))) [
  | inl t ↦
      let g : ◌≡◌ {A = Option Found} (Some (renaming (of_type 39 (records_of zone above)))) (Some f) = rw t at e in
      inr (records_of zone above, cc)
  | inr n ↦ let g : ◌≡◌ {A = Option Found} (Some (referral (of_type 2 (records_of zone at)))) (Some f) = rw n at e in
      inl (of_type 2 (records_of zone at), cc)
]

no_alias_in : (rs : List Record) (r : Record) → renaming rs ≡ alias r → ⊥
no_alias_in [] r e = cc
no_alias_in (s ∷ ss) r e = cc

alias_behind : (zone : List Record) (name : Name) (kind : ℕ) (at above : Option Name) (b : Option Found) (r : Record)
    → barrier zone at above ≡ b → behind_barrier zone name kind b ≡ alias r → r.kind ≡ 5
alias_behind zone name kind at above None r is e = go (source zone name) e
  where
    go : (node : Option Name) → at_source zone kind node ≡ alias r → r.kind ≡ 5
    go None f = absurd (cc)
    go (Some n) f =
        alias_in (if kind == 255 then records_of zone n else of_type kind (records_of zone n)) (records_of zone n) r f
alias_behind zone name kind at above (Some f) r is e = elim (in_barrier zone at above f is) [
  | inl w ↦ let g : referral w.0 ≡ alias r = sym w.1 ∙ e in absurd (cc)
  | inr w ↦ absurd (no_alias_in (of_type 39 w.0) r (sym w.1 ∙ e))
]

rename_behind : (zone : List Record) (name : Name) (kind : ℕ) (at above : Option Name) (b : Option Found) (r : Record)
    → barrier zone at above ≡ b → behind_barrier zone name kind b ≡ rename r → r.kind ≡ 39
rename_behind zone name kind at above None r is e = go (source zone name) e
  where
    go : (node : Option Name) → at_source zone kind node ≡ rename r → r.kind ≡ 39
    go None f = absurd (cc)
    go (Some n) f = absurd (no_rename_in (if kind == 255 then records_of zone n else of_type kind (records_of zone n))
        (of_type 5 (records_of zone n)) r f)
rename_behind zone name kind at above (Some f) r is e = elim (in_barrier zone at above f is) [
  | inl w ↦ let g : referral w.0 ≡ rename r = sym w.1 ∙ e in absurd (cc)
  | inr w ↦ rename_in w.0 r (sym w.1 ∙ e)
]

pub alias_kind : (apex : Name) (zone : List Record) (name : Name) (kind : ℕ) (r : Record)
    → found apex zone name kind ≡ alias r → r.kind ≡ 5
unfolding found
alias_kind apex zone name kind r e = alias_behind zone name kind (cut_for apex zone kind name) (dname zone name)
    (barrier zone (cut_for apex zone kind name) (dname zone name)) r refl e

pub rename_kind : (apex : Name) (zone : List Record) (name : Name) (kind : ℕ) (r : Record)
    → found apex zone name kind ≡ rename r → r.kind ≡ 39
unfolding found
rename_kind apex zone name kind r e = rename_behind zone name kind (cut_for apex zone kind name) (dname zone name)
    (barrier zone (cut_for apex zone kind name) (dname zone name)) r refl e

-- what is found ends the chain, or its record joins it
followed_end : (next : Trail → Name → Chased) (apex : Name) (kind : ℕ) (trail : Trail) (name : Name) (f : Found)
    → leading f ≡ None
    → continuation next apex kind trail name f ≡ record { trail = trail; ending = ended f name }
followed_end next apex kind trail name (here rs) h = refl
followed_end next apex kind trail name (alias r) h = absurd (cc)
followed_end next apex kind trail name no_data h = refl
followed_end next apex kind trail name no_name h = refl
followed_end next apex kind trail name (referral rs) h = refl
followed_end next apex kind trail name (rename r) h = absurd (cc)

lead_cases : (f : Found) (r : Record) → leading f ≡ Some r → (f ≡ alias r) ⊎ (f ≡ rename r)
lead_cases (here rs) r h = absurd (cc)
lead_cases (alias s) r h = inl (cc)
lead_cases no_data r h = absurd (cc)
lead_cases no_name r h = absurd (cc)
lead_cases (referral rs) r h = absurd (cc)
lead_cases (rename s) r h = inr (cc)

alias_leads : (name : Name) (r : Record) → r.kind ≡ 5 → target_of r ≡ led_to name r
alias_leads name r is = rw is refl

alias_somewhere : (name : Name) (r : Record) → r.kind ≡ 5 → led_to name r ≡ None → ⊥
alias_somewhere name r is none = let f = rw is at none in cc

rename_leads : (name : Name) (r : Record) → r.kind ≡ 39 → renamed name r ≡ led_to name r
rename_leads name r is = rw is refl

-- the chain where room is left
chain_step : (n apart : ℕ) (apex : Name) (zone : List Record) (kind : ℕ) (trail : Trail) (name : Name) → n ≡ apart + 1
    → chain_from n apex zone kind trail name
    ≡ continuation (chain_from apart apex zone kind) apex kind trail name (found apex zone name kind)
unfolding chain_from
chain_step zero apart apex zone kind trail name e = absurd (omega arith)
chain_step (suc n) apart apex zone kind trail name e = let f : n ≡ apart = omega arith in rw f refl

pub chain_full : (n : ℕ) (apex : Name) (zone : List Record) (kind : ℕ) (trail : Trail) (name : Name) → n ≡ 0
    → chain_from n apex zone kind trail name ≡ record { trail = trail; ending = stopped }
unfolding chain_from
chain_full zero apex zone kind trail name e = refl
chain_full (suc n) apex zone kind trail name e = absurd (omega arith)

pub chain_ends : (n : ℕ) (apex : Name) (zone : List Record) (kind : ℕ) (trail : Trail) (name : Name) (f : Found)
    → 0 < n → f ≡ found apex zone name kind → leading f ≡ None
    → chain_from n apex zone kind trail name ≡ record { trail = trail; ending = ended f name }
chain_ends n apex zone kind trail name f some is none =
    chain_step n (n - 1) apex zone kind trail name (omega arith)
    ∙ (ap (continuation (chain_from (n - 1) apex zone kind) apex kind trail name) (sym is)
    ∙ followed_end (chain_from (n - 1) apex zone kind) apex kind trail name f none)

-- where a record leads on: too far, or to a name that is looked up or isn't
abbrev pub goes_on : (Trail → Name → Chased) → Name → ℕ → Trail → Record → Option Name → Chased
goes_on next apex kind trail r None = record { trail = trail; ending = too_long r }
goes_on next apex kind trail r (Some target) =
    onward next trail (if r.kind == 39 && is_answered kind then None else next_name apex trail (Some target))

-- a record that was found for a name leads on
record Leads (apex : Name) (zone : List Record) (name : Name) (kind : ℕ) (r : Record) : Type 0 where
  found_is : (found apex zone name kind ≡ alias r) ⊎ (found apex zone name kind ≡ rename r)

leads_from : (apex : Name) (zone : List Record) (name : Name) (kind : ℕ) (f : Found) (r : Record)
    → f ≡ found apex zone name kind → Some r ≡ leading f → Leads apex zone name kind r
leads_from apex zone name kind f r is e =
    record { found_is = subst (λ x. (x ≡ alias r) ⊎ (x ≡ rename r)) is (lead_cases f r (sym e)) }

pub chain_too_long : (n : ℕ) (apex : Name) (zone : List Record) (kind : ℕ) (trail : Trail) (name : Name) (f : Found)
    (r : Record) → 0 < n → f ≡ found apex zone name kind → Some r ≡ leading f
    → led_to name r ≡ None → chain_from n apex zone kind trail name ≡ record { trail = trail; ending = too_long r }
chain_too_long n apex zone kind trail name f r some is leads none =
    let next = chain_from (n - 1) apex zone kind in
    elim ((leads_from apex zone name kind f r is leads).found_is) [
      | inl e ↦ absurd (alias_somewhere name r (alias_kind apex zone name kind r e) none)
      | inr e ↦
          let k = rename_kind apex zone name kind r e in
          chain_step n (n - 1) apex zone kind trail name (omega arith)
          ∙ (ap (continuation next apex kind trail name) e
          ∙ ap (from_renamed next apex kind trail name r) (rename_leads name r k ∙ none))
    ]

-- where the record is no DNAME, the type that is asked for doesn't matter
plain_on : (next : Trail → Name → Chased) (kind : ℕ) (more : Trail) (r : Record) (x : Option Name) → (r.kind == 39)
    ≡ false → onward next more x ≡ onward next more (if r.kind == 39 && is_answered kind then None else x)
plain_on next kind more r x other = rw other refl

renamed_on : (next : Trail → Name → Chased) (kind : ℕ) (more : Trail) (r : Record) (x : Option Name)
    → (r.kind == 39) ≡ true → onward next more (if is_answered kind then None else x)
    ≡ onward next more (if r.kind == 39 && is_answered kind then None else x)
renamed_on next kind more r x is = rw is refl

pub chain_leads : (n : ℕ) (apex : Name) (zone : List Record) (kind : ℕ) (trail more : Trail) (name : Name) (f : Found)
    (r : Record) (target : Name) → 0 < n → f ≡ found apex zone name kind
    → Some r ≡ leading f → led_to name r ≡ Some target → more ≡ trail ++ (name, r) ∷ []
    → chain_from n apex zone kind trail name ≡ onward (chain_from (n - 1) apex zone kind) more
    (if r.kind == 39 && is_answered kind then None else next_name apex more (Some target))
chain_leads n apex zone kind trail more name f r target some is leads led joined =
    let next = chain_from (n - 1) apex zone kind in
    elim ((leads_from apex zone name kind f r is leads).found_is) [
      | inl e ↦
          let k = alias_kind apex zone name kind r e in
          chain_step n (n - 1) apex zone kind trail name (omega arith)
          ∙ (ap (continuation next apex kind trail name) e
          ∙ (ap (λ t. onward next (trail ++ (name, r) ∷ []) (next_name apex (trail ++ (name, r) ∷ []) t))
          (alias_leads name r k ∙ led)
          ∙ (ap (λ m. onward next m (next_name apex m (Some target))) (sym joined)
          ∙ plain_on next kind more r (next_name apex more (Some target)) (ap (λ n. n == 39) k))))
      | inr e ↦
          let k = rename_kind apex zone name kind r e in
          chain_step n (n - 1) apex zone kind trail name (omega arith)
          ∙ (ap (continuation next apex kind trail name) e
          ∙ (ap (from_renamed next apex kind trail name r) (rename_leads name r k ∙ led)
          ∙ (ap (λ m. onward next m (if is_answered kind then None else next_name apex m (Some target))) (sym joined)
          ∙ renamed_on next kind more r (next_name apex more (Some target)) (ap (λ n. n == 39) k))))
    ]

pub chain_begins : (apex : Name) (zone : List Record) (name : Name) (kind : ℕ) (trail : Trail) → trail ≡ []
    → chain_from (16 - length trail) apex zone kind trail name ≡ chain_of apex zone name kind
unfolding chain_of
chain_begins apex zone name kind [] e = refl
chain_begins apex zone name kind (link ∷ links) e = absurd (cc)

-- a step of the chain, by what the code asks of its record
pub step_stops : (apex : Name) (zone : List Record) (kind : ℕ) (asked : Name) (trail more : Trail) (f : Found)
    (r : Record) (target : Name) (whole : Chased) → length trail < 16
    → chain_from (16 - length trail) apex zone kind trail asked ≡ whole → f ≡ found apex zone asked kind
    → Some r ≡ leading f → Some target ≡ led_to asked r → more ≡ trail ++ (asked, r) ∷ []
    → ((r.kind == 39 && is_answered kind) ≡ true) ⊎ (next_name apex more (Some target) ≡ None)
    → whole ≡ record { trail = more; ending = stopped }
step_stops apex zone kind asked trail more f r target whole room rest is leads led joined stops =
    let e = chain_leads (16 - length trail) apex zone kind trail more asked f r target (omega arith) is leads
    (sym led) joined in
    let next = chain_from (16 - length trail - 1) apex zone kind in
    sym rest ∙ (e ∙ elim stops [
      | inl t ↦ rw t refl
      | inr none ↦
          ap (onward next more) (either (r.kind == 39 && is_answered kind) (next_name apex more (Some target)) none)
    ])
  where
    either : (b : Bool) (x : Option Name) → x ≡ None → (if b then None else x) ≡ None
    either true x h = refl
    either false x h = h

pub step_goes_on : (apex : Name) (zone : List Record) (kind : ℕ) (asked : Name) (trail more : Trail) (f : Found)
    (r : Record) (target : Name) (whole : Chased) → length trail < 16
    → chain_from (16 - length trail) apex zone kind trail asked ≡ whole → f ≡ found apex zone asked kind
    → Some r ≡ leading f → Some target ≡ led_to asked r → more ≡ trail ++ (asked, r) ∷ []
    → (r.kind == 39 && is_answered kind) ≡ false → next_name apex more (Some target) ≡ Some target
    → chain_from (16 - length trail - 1) apex zone kind more target ≡ whole
step_goes_on apex zone kind asked trail more f r target whole room rest is leads led joined free on =
    let e = chain_leads (16 - length trail) apex zone kind trail more asked f r target (omega arith) is leads
    (sym led) joined in
    sym (e ∙ rw (free, on) refl) ∙ rest
