-- A phase of the script: zones have their turns in the order of their numbers, all of them or some.
use Rattle.std.proofs.Common.{◌≡◌, ℕ, zero, suc, ◌+◌, ◌<◌, ◌≤◌, Bool, true, false, List, filter, subst, arith, inl}
use Rattle.std.proofs.Common.{inr}
use Rattle.std.specs.Prelude.{flat_map}
use Rattle.std.specs.List.{range_with_len}
use Rattle.std.proofs.lemmas.Bool.{cases_Bool}
use Rattle.dz_script.specs.declared.line.Line.{Line}
use Rattle.dz_fleet.specs.Core.{Core}
use Rattle.dz_rehearsal.proofs.LifeLemmas.{HoldsOfJobs}

-- ---- each number in turn
module _ (Goes : Core → List Line → Core → Type 0) (holds : HoldsOfJobs Goes)
    (n : ℕ) (P : ℕ → Core → Type 0) (f : ℕ → List Line)
    (step : (k : ℕ) (c : Core) → 0 < k → k ≤ n → P k c → (d : Core) × Goes c (f k) d
    × P (k + 1) d) where
  each_from : (l k : ℕ) (c : Core) → 0 < k → k + l ≡ n + 1 → P k c
      → (d : Core) × Goes c (flat_map f (range_with_len k l)) d × P (n + 1) d
  each_from zero k c some all p = (c, holds.none c, subst (λ x. P x c) (omega arith) p)
  each_from (suc l) k c some all p =
      let one = step k c some (omega arith) p in
      let rest = each_from l (k + 1) one.0 (omega arith) (omega arith) one.2 in (
        rest.0,
        holds.both c one.0 rest.0 (f k) (flat_map f (range_with_len (k + 1) l))
            one.1 rest.1,
        rest.2,
      )

  pub each_goes : (c : Core) → P 1 c → (d : Core) × Goes c (flat_map f (range_with_len 1 n)) d
      × P (n + 1) d
  each_goes c p = each_from n 1 c (omega arith) (omega arith) p

-- and those of some numbers alone
module _ (Goes : Core → List Line → Core → Type 0) (holds : HoldsOfJobs Goes)
    (n : ℕ) (P : ℕ → Core → Type 0) (f : ℕ → List Line) (which : ℕ → Bool)
    (step : (k : ℕ) (c : Core) → 0 < k → k ≤ n → which k ≡ true → P k c
    → (d : Core) × Goes c (f k) d × P (k + 1) d)
    (pass : (k : ℕ) (c : Core) → 0 < k → k ≤ n → which k ≡ false → P k c → P (k + 1) c) where
  some_from : (l k : ℕ) (c : Core) → 0 < k → k + l ≡ n + 1 → P k c
      → (d : Core) × Goes c (flat_map f (filter which (range_with_len k l))) d × P (n + 1) d
  some_from zero k c some all p = (c, holds.none c, subst (λ x. P x c) (omega arith) p)
  some_from (suc l) k c some all p = elim (cases_Bool (which k)) [
    | inl t ↦
        let one = step k c some (omega arith) t p in
        let rest = some_from l (k + 1) one.0 (omega arith) (omega arith) one.2 in (
          rest.0,
          rw t (holds.both c one.0 rest.0 (f k)
              (flat_map f (filter which (range_with_len (k + 1) l))) one.1 rest.1),
          rest.2,
        )
    | inr e ↦
        let rest = some_from l (k + 1) c (omega arith) (omega arith) (pass k c some (omega arith) e p) in
        (rest.0, rw e rest.1, rest.2)
  ]

  pub some_go : (c : Core) → P 1 c
      → (d : Core) × Goes c (flat_map f (filter which (range_with_len 1 n))) d × P (n + 1) d
  some_go c p = some_from n 1 c (omega arith) (omega arith) p
