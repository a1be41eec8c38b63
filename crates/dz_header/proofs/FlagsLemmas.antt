-- The readers of flags give back what their writer put.
use Rattle.std.proofs.Common.{◌≡◌, ℕ, ◌+◌, ◌*◌, ◌/◌, ◌%◌, ◌<◌, Bool, true, false, refl, arith}
use Rattle.std.specs.Prelude.{◌==◌}
use Rattle.dz_header.specs.Flags.{bit, flags_number, ReadsBack}
use Rattle.dz_header.specs.declared.flags.Flags.{Flags}

-- a bit is 0 or its value
bit_or : (b : Bool) (v : ℕ) → (k : ℕ) × (k < 2) × (bit b v ≡ k * v) × ((k == 1) ≡ b)
bit_or true v = (1, omega arith, omega arith, refl)
bit_or false v = (0, omega arith, omega arith, refl)

pub read_back : (flags : Flags) → ReadsBack flags (flags_number flags)
unfolding flags_number
read_back flags =
    let q = bit_or flags.response 32768 in
    let a = bit_or flags.authoritative 1024 in
    let t = bit_or flags.truncated 512 in
    let r = bit_or flags.recursion_desired 256 in
    let number : ℕ = flags_number flags in
    let is : number
    ≡ q.0 * 32768 + (flags.opcode % 16 * 2048 + (a.0 * 1024 + (t.0 * 512 + (r.0 * 256 + flags.code % 16)))) =
    omega (arith, q.2, a.2, t.2, r.2) in
    let response : number / 32768 % 2 ≡ q.0 = omega (arith, q.1, a.1, t.1, r.1) in
    let authoritative : number / 1024 % 2 ≡ a.0 = omega (arith, q.1, a.1, t.1, r.1) in
    let truncated : number / 512 % 2 ≡ t.0 = omega (arith, q.1, a.1, t.1, r.1) in
    let desired : number / 256 % 2 ≡ r.0 = omega (arith, q.1, a.1, t.1, r.1) in
    record {
      response = rw response q.3;
      opcode = omega (arith, q.1, a.1, t.1, r.1);
      authoritative = rw authoritative a.3;
      truncated = rw truncated t.3;
      recursion_desired = rw desired r.3;
      code = omega (arith, q.1, a.1, t.1, r.1);
      small = omega (arith, q.1, a.1, t.1, r.1);
    }
