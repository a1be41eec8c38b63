-- A job that a list handed out.
use Rattle.std.proofs.Common.{◌≡◌, ℕ, List, [], ◌∷◌, ◌++◌, length, refl, sym, ◌∙◌, ap, subst, arith, append_assoc}
use Rattle.std.proofs.Common.{true, inl, inr}
use Rattle.std.proofs.lemmas.List.{append-nil}
use mathlib.Core.List.{IsPrefix}
use Rattle.dz_history.specs.declared.entry.Entry.{Entry}
use Rattle.dz_history.specs.State.{held_at, stands}
use Rattle.dz_history.specs.After.{after}
use Rattle.dz_job.specs.declared.flight.Flight.{Flight}
use Rattle.dz_job.specs.Job.{JobOf}
use Rattle.dz_fleet.specs.Core.{Core}
use Rattle.dz_fleet.specs.Sound.{IsAmong, IsFlying, IsGiven, IsSent, IsSound}
use Rattle.std.specs.List.{AllByRecursion}

-- beginnings of one length of one list are the same
prefix_same : {X : Type 0} (a b xs : List X) → IsPrefix a xs → IsPrefix b xs → length a ≡ length b → a ≡ b
prefix_same [] [] xs p q e = refl
prefix_same [] (y ∷ ys) xs p q e = absurd (omega arith)
prefix_same (x ∷ a) [] xs p q e = absurd (omega arith)
prefix_same (x ∷ a) (y ∷ b) [] p q e = absurd (cc (p.1))
prefix_same (x ∷ a) (y ∷ b) (z ∷ zs) p q e =
    let heads : x ≡ y = cc (p.1, q.1) in
    let rest : a ≡ b = prefix_same a b zs (p.0, cc (p.1)) (q.0, cc (q.1)) (omega arith) in cc (heads, rest)

pub given_now : (list : List Entry) (job : JobOf) → job.flight.entries ≡ length list
    → job.held ≡ held_at (after list) job.flight.zone → IsGiven list job
given_now list job e h = record { front = list; begins = ([], append-nil list); entries = sym e; held = h }

pub given_later : (list longer : List Entry) (job : JobOf) → IsPrefix list longer → IsGiven list job
    → IsGiven longer job
given_later list longer job p g = record {
  front = g.front;
  begins = (g.begins.0 ++ p.0, sym (append_assoc g.front g.begins.0 p.0) ∙ (ap (λ l. l ++ p.0) g.begins.1 ∙ p.1));
  entries = g.entries;
  held = g.held;
}

pub given_more : (list : List Entry) (e : Entry) (job : JobOf) → IsGiven list job → IsGiven (list ++ e ∷ []) job
given_more list e job g = given_later list (list ++ e ∷ []) job (e ∷ [], refl) g

-- jobs that ask for the same, handed out by one list, have one version
one_held : (list : List Entry) (a b : JobOf) → IsGiven list a → IsGiven list b → a.flight ≡ b.flight → a.held ≡ b.held
one_held list a b g h same =
    let sizes : length g.front ≡ length h.front = g.entries ∙ (ap (λ (f : Flight). f.entries) same ∙ sym h.entries) in
    let fronts = prefix_same g.front h.front list g.begins h.begins sizes in
    let zones : a.flight.zone ≡ b.flight.zone = ap (λ (f : Flight). f.zone) same in
    g.held ∙ (ap (λ front. held_at (after front) a.flight.zone) fronts
    ∙ (ap (λ z. held_at (after h.front) z) zones ∙ sym h.held))

given_held : (list : List Entry) (tickets : ℕ) (job : JobOf) (jobs : List JobOf) → IsGiven list job
    → IsAmong job.flight jobs → AllByRecursion (IsSent list tickets) jobs
    → stands (after list) job.flight.zone job.flight.incarnation ≡ true
    → job.held ≡ held_at (after list) job.flight.zone
unfolding IsAmong
given_held list tickets job [] g among sent up = absurd among
given_held list tickets job (j ∷ js) g (inl e) sent up =
    let there : stands (after list) j.flight.zone j.flight.incarnation ≡ true =
    subst (λ (f : Flight). stands (after list) f.zone f.incarnation ≡ true) (sym e) up in
    one_held list job j g sent.0.given (sym e)
    ∙ (sent.0.held there ∙ ap (λ (f : Flight). held_at (after list) f.zone) e)
given_held list tickets job (j ∷ js) g (inr r) sent up = given_held list tickets job js g r sent.1 up

-- a job that the core's list handed out is the core's where one in flight asks for the same
pub given_flies : (c : Core) (job : JobOf) → IsSound c → IsGiven c.list job → IsAmong job.flight c.flight
    → IsFlying c job
given_flies c job ok g among =
    record { there = among; given = g; held = given_held c.list c.tickets job c.flight g among ok.sent }
