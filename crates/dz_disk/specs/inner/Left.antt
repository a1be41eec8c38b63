-- Inner: what a disk in memory reports is what a crash may leave of it, now and from earlier moments on.
use Rattle.std.specs.Prelude.{◌≡◌, ◌+◌, ◌-◌, ◌≤◌, ℕ, List, [], ◌∷◌, ◌++◌, length, take, drop, Some}
use Rattle.std.proofs.Common.{refl, sym, ap, subst, ◌∙◌, arith, length-append, length-take, length-drop}
use Rattle.std.specs.List.{fold}
use Rattle.std.proofs.lemmas.List.{take_at, drop_at, take_all, append_assoc}
use Rattle.std.proofs.lemmas.Option.{same_Some}
use Rattle.dz_disk.specs.Disk.{put, IsTorn}
use Rattle.dz_disk.specs.MemoryDisk.{State, DiskOf, begun, place, after, state, state_of, MayLeave, LeftFrom}
use Rattle.dz_disk.specs.declared.memory_disk.DiskAct.{DiskAct}
use Rattle.dz_disk.specs.declared.memory_disk.DiskAct.TheVariants as act

pub torn_same : (at count : ℕ) (file : List ℕ) → IsTorn at count file file
torn_same at count file = record { front = refl; beyond = refl; least = omega arith; most = omega arith }

front_long : (at : ℕ) (file : List ℕ) → at ≤ length file → length (take at file) ≡ at
front_long at file le = omega (arith, le, length-take at file)

pub torn_put : (at : ℕ) (piece file : List ℕ) → at ≤ length file → IsTorn at (length piece) file (put at piece file)
torn_put at piece file le =
    let long : length (put at piece file) ≡ at + (length piece + (length file - (at + length piece))) =
    omega (
      arith,
      le,
      length-append (take at file) (piece ++ drop (at + length piece) file),
      length-append piece
          (drop (at + length piece) file),
      length-take at file,
      length-drop (at + length piece) file,
    ) in
    record {
      front = take_at (take at file) (piece ++ drop (at + length piece) file) at (front_long at file le);
      beyond =
          ap (λ l. drop (at + length piece) l)
          (sym (append_assoc (take at file) piece (drop (at + length piece) file)))
          ∙ drop_at (take at file ++ piece) (drop (at + length piece) file) (at + length piece)
          (omega (arith, length-append (take at file) piece, front_long at file le));
      least = omega (arith, long);
      most = omega (arith, long);
    }

after_left : (s : State) (a : DiskAct) → MayLeave s s.octets → MayLeave (after s a) (after s a).octets
after_left s (act.Wrote at piece) left = (s.octets, left, torn_put (place at s) piece.items s.octets (omega arith))
after_left s (act.Tried at count) left = (s.octets, left, torn_same at count s.octets)
after_left s act.Synced left = refl

all_left : (acts : List DiskAct) (s : State) → MayLeave s s.octets
    → MayLeave (fold after s acts) (fold after s acts).octets
all_left [] s left = left
all_left (a ∷ acts) s left = all_left acts (after s a) (after_left s a left)

pub told_left : (d : DiskOf) → MayLeave (state_of d) (state_of d).octets
told_left d = all_left d.acts (begun d.begun) refl

pub left_now : (d : DiskOf) (t : ℕ) (c : List ℕ) → t ≤ length d.acts → MayLeave (state_of d) c
    → LeftFrom d.begun d.acts t c
left_now d t c le left = record {
  many = length d.acts;
  late = le;
  there = omega arith;
  left = subst (λ acts. MayLeave (state d.begun acts) c) (sym (take_all (length d.acts) d.acts (omega arith))) left;
}

pub left_alone : (d : DiskOf) (c : List ℕ) → LeftFrom d.begun d.acts (length d.acts) c → MayLeave (state_of d) c
left_alone d c from = subst (λ acts. MayLeave (state d.begun acts) c) (take_all from.many d.acts from.late) from.left

pub told_is_left : (d : DiskOf) (f : List ℕ) → Some (state_of d).octets ≡ Some f → MayLeave (state_of d) f
told_is_left d f told = subst (λ l. MayLeave (state_of d) l) (same_Some _ _ told) (told_left d)
