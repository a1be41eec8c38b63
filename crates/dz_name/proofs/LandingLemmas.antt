-- What is at the end of a chain of pointers reads the same as what is at its beginning, but for the offset after it.
use Rattle.std.proofs.Common.{◌≡◌, ℕ, ◌+◌, ◌<◌, ◌≤◌, List, [], ◌∷◌, ◌++◌, length, refl, sym, ◌∙◌, inl, inr, true}
use Rattle.std.proofs.Common.{false, ◌⊎◌, arith}
use Rattle.std.specs.Prelude.{slice_index, slice_index_or, nat_lt}
use Rattle.std.proofs.Common.{length-append}
use Rattle.std.proofs.lemmas.List.{get_or_append_left, get_or_push, get_or_default}
use Rattle.std.proofs.lemmas.Bool.{cases_lt}
use Rattle.std.proofs.lemmas.Bool.Decides.{nat_tests}
use Rattle.dz_name.specs.Reading.{Reading, Reads, at_pointer, ends_at, target_at}
use Rattle.std.specs.Prelude.{Ok, Err}
use Rattle.dz_name.specs.inner.Landings.{LeadsTo, LeadsOn, Lands, stays, goes_on, AreLandings, EndsChains, landing_in}

pub lands_before : (m : List ℕ) {at end : ℕ} → Lands m at end → end ≤ at
lands_before m stays = omega arith
lands_before m (goes_on leads lands) = omega (arith, leads.before, lands_before m lands)

ends_again : (a b : ℕ) (r : Reading) → ends_at a (ends_at b r) ≡ ends_at a r
ends_again a b (Ok r) = refl
ends_again a b (Err e) = refl

-- a reading that differs from this one in its end alone
pub record ReadsLike (m : List ℕ) (used at : ℕ) (rest : Reading) : Type 0 where
  pub reading : Reading
  pub reads : Reads m at used at reading
  pub like : (end : ℕ) → ends_at end reading ≡ ends_at end rest

pub lands_like : (m : List ℕ) {at end : ℕ} (used : ℕ) (rest : Reading) → Lands m at end → Reads m end used end rest
    → ReadsLike m used at rest
lands_like m used rest stays reads = record { reading = rest; reads = reads; like = λ _. refl }
lands_like m {at} used rest (goes_on {target = target} leads lands) reads =
    let l : ReadsLike m used target rest = lands_like m used rest lands reads in
    record {
      reading = ends_at (at + 2) l.reading;
      reads = at_pointer leads.within leads.pointer (omega (arith, leads.target_is, leads.before))
          (rw leads.target_is l.reads);
      like = λ end. ends_again end (at + 2) l.reading ∙ l.like end;
    }

pub landing_lands : (m landings : List ℕ) (target : ℕ) → AreLandings m landings
    → Lands m target (landing_in landings target)
landing_lands m landings target are = elim (cases_lt target (length landings)) [
  | inl within ↦
      let e : nat_lt target (length landings) ≡ true = grind (arith, nat_tests) in
      rw e (are.led target within)
  | inr past ↦ let e : nat_lt target (length landings) ≡ false = grind (arith, nat_tests) in rw e stays
]

pub no_landings : (m : List ℕ) → AreLandings m []
no_landings m = record { led = λ at within. absurd (omega arith); ended = λ at within. absurd (omega arith) }

-- one more offset
pub landings_more : (m landings : List ℕ) (landing : ℕ) → AreLandings m landings → Lands m (length landings) landing
    → ¬ LeadsOn m landing
    → AreLandings m (landings ++ landing ∷ [])
landings_more m landings landing are lands last =
    let long = length-append landings (landing ∷ []) in
    let old = λ (at : ℕ) (h : at < length landings). get_or_append_left landings (landing ∷ []) 0 at h in
    let new = get_or_push landings landing 0 (length landings) refl in
    record {
      led = λ at within. elim (cases_lt at (length landings)) [
        | inl before ↦ rw (old at before) (are.led at before)
        | inr behind ↦ let e : at ≡ length landings = omega (arith, long) in rw (e, new) lands
      ];
      ended = λ at within. elim (cases_lt at (length landings)) [
        | inl before ↦ rw (old at before) (are.ended at before)
        | inr behind ↦ let e : at ≡ length landings = omega (arith, long) in rw (e, new) last
      ];
    }

-- at an offset without a pointer that leads on
pub more_stays : (m landings : List ℕ) (at : ℕ) → AreLandings m landings
    → length landings ≡ at → ¬ LeadsOn m at → AreLandings m (landings ++ at ∷ [])
more_stays m landings at are long last = landings_more m landings at are (rw long stays) last

-- at a pointer, which lands where its target does
pub more_goes_on : (m landings : List ℕ) (at target landing : ℕ) → AreLandings m landings
    → length landings ≡ at → LeadsTo m at target
    → landing ≡ slice_index_or landings target landing → AreLandings m (landings ++ landing ∷ [])
more_goes_on m landings at target landing are long leads is =
    let within : target < length landings = omega (arith, leads.before) in
    let e : slice_index landings target ≡ landing = get_or_default landings target 0 landing within ∙ sym is in
    landings_more m landings landing are (rw long (goes_on leads (rw e at (are.led target within))))
    (rw e at (are.ended target within))

-- a table of all offsets that a pointer can lead to ends each chain
pub all_end : (m landings : List ℕ) → AreLandings m landings → ((i : ℕ) → slice_index m i < 256)
    → (length m ≤ length landings) ⊎ (16384 ≤ length landings) → EndsChains m landings
all_end m landings are octets long at target leads =
    let first = octets at in
    let second = octets (at + 1) in
    let short : target < 16384 = omega (arith, first, second, leads.target_is, leads.pointer) in
    let within : target < length landings =
    elim long [ inl all ↦ omega (arith, leads.before, leads.within) | inr far ↦ omega arith ] in
    let e : nat_lt target (length landings) ≡ true = grind (arith, nat_tests) in
    rw e (are.ended target within)

-- no more steps than the labels so far have octets, or one more right after a pointer, where no pointer leads on
pub data TakesUpTo (m : List ℕ) : ℕ → ℕ → ℕ → ℕ → Type 0 where
  at_piece : {piece at used steps : ℕ} → at ≡ piece → ¬ LeadsOn m at → steps ≤ used + 1
      → TakesUpTo m piece at used steps
  in_piece : {piece at used steps : ℕ} → steps ≤ used → TakesUpTo m piece at used steps

pub takes_few : (m : List ℕ) {piece at used steps : ℕ} → TakesUpTo m piece at used steps → steps ≤ used + 1
takes_few m (at_piece e last le) = le
takes_few m (in_piece le) = omega arith

-- a label, one step later
pub takes_label : (m : List ℕ) {piece at used steps : ℕ} (next longer later : ℕ) → TakesUpTo m piece at used steps
    → used + 2 ≤ longer → later ≡ steps + 1 → TakesUpTo m piece next longer later
takes_label m next longer later so_far long one = in_piece (omega (arith, takes_few m so_far))

-- a pointer that is followed, one step later
pub takes_pointer : (m landings : List ℕ) {piece at used steps : ℕ} (target landing later : ℕ) → EndsChains m landings
    → TakesUpTo m piece at used steps
    → piece ≤ at → target < piece → at + 1 < length m → 192 ≤ slice_index m at → target_at m at ≡ target
    → landing ≡ landing_in landings target → later ≡ steps + 1
    → TakesUpTo m landing landing used later
takes_pointer m landings {piece} {at} target landing later ends so_far order before within pointer is lands one =
    let leads : LeadsTo m at target =
    record { within = within; pointer = pointer; target_is = is; before = omega arith } in
    elim so_far [
      | at_piece e last le ↦ absurd (last (target, leads))
      | in_piece le ↦ at_piece refl (rw lands (ends at target leads)) (omega arith)
    ]
