-- Whether a job is this core's.
use Rattle.std.proofs.Common.{◌≡◌, ℕ, Bool, true, List, [], ◌∷◌, map, refl, ap, inl, inr}
use Rattle.std.specs.Prelude.{◌==◌, ◌||◌}
use Rattle.std.specs.Bool.{Decides}
use Rattle.std.specs.List.{list_any}
use Rattle.std.specs.Str.{bytes_eq}
use Rattle.std.specs.Cmp.{unsigned_Decides}
use Rattle.std.proofs.lemmas.Bool.{cases_Bool}
use Rattle.std.proofs.lemmas.Bool.Decides.{Decides-and}
use Rattle.std.proofs.lemmas.Slice.Eq.{bytes_eq-Decides}
use Rattle.dz_name.specs.Name.{same_name}
use Rattle.dz_name.specs.Order.{same_decides}
use Rattle.dz_io.specs.declared.peer.Peer.{Peer}
use Rattle.dz_take.specs.declared.ask.Ask.{Ask}
use Rattle.dz_take.specs.declared.ask.Ask.TheVariants.{Axfr, Ixfr}
use Rattle.dz_job.specs.declared.flight.Flight.{Flight}
use Rattle.dz_fleet.specs.declared.flight.Flying.{Flying}
use Rattle.dz_fleet.specs.Sound.{IsAmong}
use Rattle.dz_fleet.specs.inner.Flying.{job_in}
use Rattle.dz_fleet.specs.inner.Same.{same_ask, same_peer, same_query, same_number, same_flight}

-- ---- parts
pub by_parts : {P Q : Type 0} (r : Bool) → Decides r P → (P → Q) → (Q → P) → Decides r Q
by_parts r d f g = (λ t. f (d.0 t), λ q. d.1 (g q))

ask_decides : (a b : Ask) → Decides (same_ask a b) (a ≡ b)
ask_decides Axfr Axfr = (λ t. refl, λ e. refl)
ask_decides Axfr Ixfr = (λ t. absurd (cc), λ e. absurd (cc))
ask_decides Ixfr Axfr = (λ t. absurd (cc), λ e. absurd (cc))
ask_decides Ixfr Ixfr = (λ t. refl, λ e. refl)

peer_is : (a b : Peer) → a.address ≡ b.address → a.port ≡ b.port → a ≡ b
peer_is a b e f = λ i. record { address = e i; port = f i }

peer_decides : (a b : Peer) → Decides (same_peer a b) (a ≡ b)
peer_decides a b =
    by_parts (same_peer a b) (Decides-and (bytes_eq a.address b.address) (a.port == b.port)
    (bytes_eq-Decides a.address b.address) (unsigned_Decides a.port b.port))
    (λ p. peer_is a b p.0 p.1) (λ e. (ap (λ (x : Peer). x.address) e, ap (λ (x : Peer). x.port) e))

record IsSameQuery (a b : Flight) : Type 0 where
  ask : a.ask ≡ b.ask
  id : a.id ≡ b.id
  primary : a.primary ≡ b.primary
  moment : a.moment ≡ b.moment

query_decides : (a b : Flight) → Decides (same_query a b) (IsSameQuery a b)
query_decides a b =
    by_parts (same_query a b)
    (Decides-and (same_ask a.ask b.ask) _ (ask_decides a.ask b.ask)
    (Decides-and (a.id == b.id) _ (unsigned_Decides a.id b.id) (Decides-and (same_peer a.primary b.primary)
    (a.moment == b.moment) (peer_decides a.primary b.primary) (unsigned_Decides a.moment b.moment))))
    (λ p. record { ask = p.0; id = p.1.0; primary = p.1.1.0; moment = p.1.1.1 })
    (λ q. (q.ask, (q.id, (q.primary, q.moment))))

flight_is : (a b : Flight) → a.ticket ≡ b.ticket → a.entries ≡ b.entries → a.zone ≡ b.zone
    → a.incarnation ≡ b.incarnation → IsSameQuery a b → a ≡ b
flight_is a b t l z n q = λ i. record {
  ticket = t i;
  entries = l i;
  zone = z i;
  incarnation = n i;
  ask = q.ask i;
  id = q.id i;
  primary = q.primary i;
  moment = q.moment i;
}

query_of : (a b : Flight) → a ≡ b → IsSameQuery a b
query_of a b e = record {
  ask = ap (λ (x : Flight). x.ask) e;
  id = ap (λ (x : Flight). x.id) e;
  primary = ap (λ (x : Flight). x.primary) e;
  moment = ap (λ (x : Flight). x.moment) e;
}

flight_decides : (a b : Flight) → Decides (same_flight a b) (a ≡ b)
flight_decides a b =
    by_parts (same_flight a b)
    (Decides-and (same_number a b) _ (Decides-and (a.ticket == b.ticket) (a.entries == b.entries)
    (unsigned_Decides a.ticket b.ticket) (unsigned_Decides a.entries b.entries))
    (Decides-and (same_name a.zone b.zone) _ (same_decides a.zone b.zone) (Decides-and (a.incarnation == b.incarnation)
    (same_query a b) (unsigned_Decides a.incarnation b.incarnation) (query_decides a b))))
    (λ p. flight_is a b p.0.0 p.0.1 p.1.0 p.1.1.0 p.1.1.1)
    (λ e. (
      (ap (λ (x : Flight). x.ticket) e, ap (λ (x : Flight). x.entries) e),
      (ap (λ (x : Flight). x.zone) e, (ap (λ (x : Flight). x.incarnation) e, query_of a b e)),
    ))

-- ---- jobs in flight
pub among_decides : (flight : Flight) (fs : List Flying)
    → Decides (list_any (λ f. same_flight f.flight flight) fs) (IsAmong flight (map job_in fs))
unfolding IsAmong
among_decides flight [] = (λ t. absurd (cc), λ a. absurd a)
among_decides flight (f ∷ fs) = elim (cases_Bool (same_flight f.flight flight)) [
  | inl y ↦ (λ t. inl ((flight_decides f.flight flight).0 y), λ a. rw y refl)
  | inr n ↦ (
    λ t. inr ((among_decides flight fs).0 (rw n at t)),
    λ a. elim a [
      | inl e ↦ absurd (let y : same_flight f.flight flight ≡ true = (flight_decides f.flight flight).1 e in cc)
      | inr r ↦ rw n ((among_decides flight fs).1 r)
    ],
  )
]

pub any_ticket : (n : ℕ) (fs : List Flying)
    → list_any (λ f. f.flight.ticket == n) fs ≡ list_any (λ j. j.flight.ticket == n) (map job_in fs)
any_ticket n [] = refl
any_ticket n (f ∷ fs) = ap (λ b. (f.flight.ticket == n) || b) (any_ticket n fs)
