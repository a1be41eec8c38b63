-- One act more, on a disk in memory.
use Rattle.std.proofs.Common.{◌≡◌, inl, inr, ℕ, ◌+◌, ◌-◌, ◌≤◌, List, [], ◌∷◌, ◌++◌, length, take, drop, Vec, sym, ap}
use Rattle.std.proofs.Common.{subst, ◌∙◌, arith, length-append, length-take, length-drop}
use Rattle.std.specs.declared.alloc.Global.{Global}
use Rattle.std.proofs.lemmas.Bool.{cases_lt}
use Rattle.std.proofs.lemmas.List.{take-append-le, take_all}
use Rattle.std.proofs.lemmas.List.Sums.{fold-append}
use Rattle.dz_io.specs.Memory.{no_calls}
use Rattle.dz_disk.specs.Disk.{put, IsTorn, Passes}
use Rattle.dz_disk.specs.MemoryDisk.{State, begun, place, after, state, MayLeave, LeftFrom}
use Rattle.dz_disk.specs.inner.Left.{torn_same, torn_put, told_left}
use Rattle.dz_disk.specs.inner.Copies.{IsOf}
use Rattle.dz_disk.specs.declared.memory_disk.DiskAct.{DiskAct}
use Rattle.dz_disk.specs.declared.memory_disk.DiskAct.TheVariants.{Wrote, Tried, Synced}

pub passes_none : (octets : List ℕ) (acts : List DiskAct)
    → Passes (length acts) (length acts) (LeftFrom octets acts) (LeftFrom octets acts) (MayLeave (state octets acts))
passes_none octets acts = record { later = omega arith; only = λ t c le left. inl left; all = λ t c le left. left }

early : (octets : List ℕ) (acts : List DiskAct) (a : DiskAct) (c : List ℕ) (k : ℕ) → k ≤ length acts
    → MayLeave (state octets (take k (acts ++ a ∷ []))) c → MayLeave (state octets (take k acts)) c
early octets acts a c k le left = subst (λ l. MayLeave (state octets l) c) (take-append-le k acts (a ∷ []) le) left

pub passes_one : (octets : List ℕ) (acts : List DiskAct) (a : DiskAct) → Passes (length acts) (length (acts ++ a ∷ []))
    (LeftFrom octets acts) (LeftFrom octets (acts ++ a ∷ [])) (MayLeave (state octets (acts ++ a ∷ [])))
passes_one octets acts a = record {
  later = omega (arith, length-append acts (a ∷ []));
  only = λ t c le from. elim (cases_lt (length acts) from.many) [
    | inl more ↦ inr (subst (λ l. MayLeave (state octets l) c)
        (take_all from.many (acts ++ a ∷ []) (omega (arith, more, length-append acts (a ∷ [])))) from.left)
    | inr less ↦ inl (record {
      many = from.many;
      late = from.late;
      there = less;
      left = early octets acts a c from.many less from.left;
    })
  ];
  all = λ t c le from. record {
    many = from.many;
    late = from.late;
    there = omega (arith, from.there, length-append acts (a ∷ []));
    left =
        subst (λ l. MayLeave (state octets l) c) (sym (take-append-le from.many acts (a ∷ []) from.there)) from.left;
  };
}

-- one act more, done after the others
pub act_more : (octets : List ℕ) (acts : List DiskAct) (a : DiskAct)
    → state octets (acts ++ a ∷ []) ≡ after (state octets acts) a
act_more octets acts a = fold-append after (begun octets) acts (a ∷ [])

-- what a sync leaves might have been left before
pub synced_left : (octets : List ℕ) (acts : List DiskAct) (c : List ℕ)
    → MayLeave (state octets (acts ++ Synced ∷ [])) c → MayLeave (state octets acts) c
synced_left octets acts c left =
    let is : c ≡ (state octets acts).octets = subst (λ s. MayLeave s c) (act_more octets acts Synced) left in
    subst (λ l. MayLeave (state octets acts) l) (sym is)
    (told_left (record { begun = octets; acts = acts; calls = no_calls [] }))

long_put : (at : ℕ) (piece file : List ℕ) → at ≤ length file
    → length (put at piece file) ≡ at + (length piece + (length file - (at + length piece)))
long_put at piece file le =
    omega (
      arith,
      le,
      length-append (take at file) (piece ++ drop (at + length piece) file),
      length-append piece (drop (at + length piece) file),
      length-take at file,
      length-drop (at + length piece) file,
    )

-- a piece was written, and noise beside it
pub wrote_kept : (origin : List ℕ) (acts : List DiskAct) (octets sure noisy noise : List ℕ) (at : ℕ) (v : Vec ℕ Global)
    → IsOf origin acts octets sure noisy → at ≤ length octets → length noise ≡ length v.items
    → IsOf origin (acts ++ Wrote at v ∷ []) (put at v.items octets) sure (put at noise noisy)
wrote_kept origin acts octets sure noisy noise at v kept le long =
    let s = state origin acts in
    let here : place at s ≡ at = omega (arith, le, ap length kept.octets_are) in
    let more = act_more origin acts (Wrote at v) in
    let wide : at ≤ length noisy = omega (arith, le, kept.long) in
    record {
      octets_are = ap (λ l. put at v.items l) kept.octets_are ∙ ap (λ n. put n v.items s.octets) (sym here)
          ∙ sym (ap (λ (t : State). t.octets) more);
      sure_is = kept.sure_is ∙ sym (ap (λ (t : State). t.sure) more);
      sure_may =
          subst (λ t. MayLeave t sure) (sym more) (sure, kept.sure_may, torn_same (place at s) (length v.items) sure);
      noisy_may = subst (λ t. MayLeave t (put at noise noisy)) (sym more) (
        noisy,
        kept.noisy_may,
        subst (λ n. IsTorn n (length v.items) noisy (put at noise noisy)) (sym here)
            (subst (λ n. IsTorn at n noisy (put at noise noisy)) long (torn_put at noise noisy wide)),
      );
      long = omega (arith, long_put at v.items octets le, long_put at noise noisy wide, long, kept.long);
    }

-- a write failed, and noise may be there
pub tried_kept : (origin : List ℕ) (acts : List DiskAct) (octets sure noisy noise : List ℕ) (at count : ℕ)
    → IsOf origin acts octets sure noisy → at ≤ length octets → length noise ≡ count
    → IsOf origin (acts ++ Tried at count ∷ []) octets sure (put at noise noisy)
tried_kept origin acts octets sure noisy noise at count kept le long =
    let more = act_more origin acts (Tried at count) in
    let wide : at ≤ length noisy = omega (arith, le, kept.long) in
    record {
      octets_are = kept.octets_are ∙ sym (ap (λ (t : State). t.octets) more);
      sure_is = kept.sure_is ∙ sym (ap (λ (t : State). t.sure) more);
      sure_may = subst (λ t. MayLeave t sure) (sym more) (sure, kept.sure_may, torn_same at count sure);
      noisy_may = subst (λ t. MayLeave t (put at noise noisy)) (sym more) (
        noisy,
        kept.noisy_may,
        subst (λ n. IsTorn at n noisy (put at noise noisy)) long (torn_put at noise noisy wide),
      );
      long = omega (arith, long_put at noise noisy wide, kept.long);
    }

-- what a crash leaves after a write that failed tears what it might have left before
pub tried_tears : (octets : List ℕ) (acts : List DiskAct) (at count : ℕ) (c : List ℕ)
    → MayLeave (state octets (acts ++ Tried at count ∷ [])) c
    → (d : List ℕ) × MayLeave (state octets acts) d × IsTorn at count d c
tried_tears octets acts at count c left = subst (λ s. MayLeave s c) (act_more octets acts (Tried at count)) left
