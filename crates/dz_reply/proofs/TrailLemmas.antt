-- What a chain shows, step by step.
use Rattle.std.proofs.Common.{◌≡◌, ℕ, ◌+◌, ◌<◌, ◌≤◌, true, false, List, [], ◌∷◌, ◌++◌, length, take, drop, get_or}
use Rattle.std.proofs.Common.{refl, sym, ◌∙◌, ap, arith, length-append}
use Rattle.std.specs.Prelude.{◌==◌}
use Rattle.std.specs.List.{list_any}
use Rattle.std.proofs.lemmas.List.{drop_more, drop_all, take_more}
use Rattle.std.proofs.lemmas.Bool.{eqb-true, false_from_ne_true}
use Rattle.dz_name.specs.Words.{Name}
use Rattle.dz_name.specs.Name.{wire_of}
use Rattle.dz_name.specs.Numbers.{two, four}
use Rattle.dz_record.specs.Record.{Record, same_record}
use Rattle.dz_lookup.specs.Chain.{Trail}
use Rattle.dz_lookup.specs.inner.Links.{behind}
use Rattle.dz_header.specs.Writing.{Writing, also}
use Rattle.dz_header.proofs.WriterLemmas.{also_append}
use Rattle.dz_reply.specs.Layout.{owner_octets, entry_octets, entries_octets, entry}
use Rattle.dz_reply.specs.Answer.{dname_entries, step_entries, entries_behind, trail_entries}
use Rattle.dz_reply.proofs.AnswerLemmas.{both_written, none_written, one_written}

-- what a chain shows from a step on is what the step shows, and what the steps after it show
step_on : (trail : Trail) (k : ℕ) (d : Name × Record) → k < length trail
    → entries_behind (take k trail) (drop k trail)
    ≡ step_entries (take k trail) (get_or trail k d) ++ entries_behind (take (k + 1) trail) (drop (k + 1) trail)
unfolding entries_behind
step_on trail k d lt = rw (drop_more trail k d lt, take_more trail k d lt) refl

at_last : (trail : Trail) (k : ℕ) → length trail ≤ k → entries_behind (take k trail) (drop k trail) ≡ []
unfolding entries_behind
at_last trail k le = rw (drop_all k trail le) refl

pub from_start : (trail : Trail) → entries_behind (take 0 trail) (drop 0 trail) ≡ trail_entries trail
unfolding trail_entries
from_start trail = refl

-- counted
pub counted_more : (trail : Trail) (k count one : ℕ) (d : Name × Record) → k < length trail
    → one ≡ length (step_entries (take k trail) (get_or trail k d))
    → count + length (entries_behind (take k trail) (drop k trail)) ≡ length (trail_entries trail)
    → count + one + length (entries_behind (take (k + 1) trail) (drop (k + 1) trail)) ≡ length (trail_entries trail)
counted_more trail k count one d lt is so_far =
    let e = rw (step_on trail k d lt) at so_far in
    omega (
      arith,
      e,
      is,
      length-append (step_entries (take k trail) (get_or trail k d))
          (entries_behind (take (k + 1) trail) (drop (k + 1) trail)),
    )

pub counted_all : (trail : Trail) (k count : ℕ) → length trail ≤ k
    → count + length (entries_behind (take k trail) (drop k trail)) ≡ length (trail_entries trail)
    → count ≡ length (trail_entries trail)
counted_all trail k count le so_far = let e = rw (at_last trail k le) at so_far in omega (arith, e)

-- written
pub written_more : (q : Name) (trail : Trail) (k : ℕ) (start w w1 : Writing) (d : Name × Record) → k < length trail
    → w1 ≡ also w (entries_octets q (step_entries (take k trail) (get_or trail k d)))
    → also w (entries_octets q (entries_behind (take k trail) (drop k trail)))
    ≡ also start (entries_octets q (trail_entries trail))
    → also w1 (entries_octets q (entries_behind (take (k + 1) trail) (drop (k + 1) trail)))
    ≡ also start (entries_octets q (trail_entries trail))
written_more q trail k start w w1 d lt is so_far =
    let rest : List Record = entries_behind (take (k + 1) trail) (drop (k + 1) trail) in
    let e : also w (entries_octets q (step_entries (take k trail) (get_or trail k d) ++ rest))
    ≡ also start (entries_octets q (trail_entries trail)) = rw (step_on trail k d lt) at so_far in
    both_written q (step_entries (take k trail) (get_or trail k d)) rest w w1 (also w1 (entries_octets q rest)) is refl
    ∙ e

pub written_all : (q : Name) (trail : Trail) (k : ℕ) (start w : Writing) → length trail ≤ k
    → also w (entries_octets q (entries_behind (take k trail) (drop k trail)))
    ≡ also start (entries_octets q (trail_entries trail)) → w ≡ also start (entries_octets q (trail_entries trail))
written_all q trail k start w le so_far = none_written q w ∙ (rw (at_last trail k le) at so_far)

-- a step, by its record
pub alias_step : (before : Trail) (a : Name × Record) → (a.1.kind == 39) ≡ false
    → step_entries before a ≡ entry a.0 a.1.ttl a.1 ∷ []
unfolding step_entries
alias_step before a other = rw other refl

pub renamer_step : (before : Trail) (a : Name × Record) → (a.1.kind == 39) ≡ true
    → step_entries before a ≡ dname_entries before a.1
    ++ record { owner = a.0; kind = 5; ttl = a.1.ttl; rdata = wire_of (behind a.0 a.1) } ∷ []
unfolding step_entries
renamer_step before a is = rw is refl

-- a DNAME that is there already, or isn't
pub there : (before : Trail) (r : Record) → list_any (λ a. same_record a.1 r) before ≡ true
    → dname_entries before r ≡ []
there before r h = rw h refl

pub not_there : (before : Trail) (r : Record) → list_any (λ a. same_record a.1 r) before ≡ false
    → dname_entries before r ≡ entry r.owner r.ttl r ∷ []
not_there before r h = rw h refl

-- a CNAME that is in no zone, piece by piece
pub cname_written : (question owner target : Name) (ttl : ℕ) (w w1 w2 w3 w4 w5 w6 : Writing)
    → w1 ≡ also w (owner_octets question owner) → w2 ≡ also w1 (two 5) → w3 ≡ also w2 (two 1) → w4 ≡ also w3 (four ttl)
    → w5 ≡ also w4 (two (length (wire_of target))) → w6 ≡ also w5 (wire_of target)
    → w6 ≡ also w (entry_octets question (record { owner = owner; kind = 5; ttl = ttl; rdata = wire_of target }))
unfolding entry_octets
cname_written question owner target ttl w w1 w2 w3 w4 w5 w6 e1 e2 e3 e4 e5 e6 =
    let a : List ℕ = owner_octets question owner in
    let e : List ℕ = two (length (wire_of target)) in
    let f : List ℕ = wire_of target in
    let steps : w6 ≡ also (also (also (also (also (also w a) (two 5)) (two 1)) (four ttl)) e) f =
    e6 ∙ ap (λ x. also x f) (e5 ∙ ap (λ x. also x e)
    (e4 ∙ ap (λ x. also x (four ttl)) (e3 ∙ ap (λ x. also x (two 1)) (e2 ∙ ap (λ x. also x (two 5)) e1)))) in
    let joins : also w (a ++ (two 5 ++ (two 1 ++ (four ttl ++ (e ++ f)))))
    ≡ also (also (also (also (also (also w a) (two 5)) (two 1)) (four ttl)) e) f =
    also_append w a (two 5 ++ (two 1 ++ (four ttl ++ (e ++ f))))
    ∙ also_append (also w a) (two 5) (two 1 ++ (four ttl ++ (e ++ f)))
    ∙ also_append (also (also w a) (two 5)) (two 1) (four ttl ++ (e ++ f))
    ∙ also_append (also (also (also w a) (two 5)) (two 1)) (four ttl) (e ++ f)
    ∙ also_append (also (also (also (also w a) (two 5)) (two 1)) (four ttl)) e f in
    steps ∙ sym joins

-- a step counted
pub renamer_counted : (before : Trail) (a : Name × Record) (r : Record) (n : ℕ) → r ≡ a.1 → r.kind ≡ 39
    → n ≡ length (dname_entries before r) → n + 1 ≡ length (step_entries before a)
renamer_counted before a r n is kind count =
    let k : (a.1.kind == 39) ≡ true = ap (λ x. x.kind == 39) (sym is) ∙ ap (λ x. x == 39) kind in
    let e = ap length (renamer_step before a k) in
    let f = length-append (dname_entries before a.1)
    (record { owner = a.0; kind = 5; ttl = a.1.ttl; rdata = wire_of (behind a.0 a.1) } ∷ []) in
    let g : n ≡ length (dname_entries before a.1) = count ∙ ap (λ x. length (dname_entries before x)) is in
    omega (arith, e, f, g)

not_renamer : (r : Record) → (r.kind ≡ 39 → ⊥) → (r.kind == 39) ≡ false
not_renamer r other = false_from_ne_true (r.kind == 39) (λ t. other (eqb-true r.kind 39 t))

pub alias_counted : (before : Trail) (a : Name × Record) (r : Record) → r ≡ a.1 → (r.kind ≡ 39 → ⊥)
    → 1 ≡ length (step_entries before a)
alias_counted before a r is other =
    let k : (a.1.kind == 39) ≡ false = ap (λ x. x.kind == 39) (sym is) ∙ not_renamer r other in
    sym (ap length (alias_step before a k))

-- a step written
pub renamer_written : (q : Name) (before : Trail) (a : Name × Record) (r : Record) (name target : Name)
    (w w1 w2 : Writing) → r ≡ a.1 → name ≡ a.0 → target ≡ behind name a.1 → r.kind ≡ 39
    → w1 ≡ also w (entries_octets q (dname_entries before r))
    → w2 ≡ also w1 (entry_octets q (record { owner = name; kind = 5; ttl = r.ttl; rdata = wire_of target }))
    → w2 ≡ also w (entries_octets q (step_entries before a))
renamer_written q before a r name target w w1 w2 is named to kind e1 e2 =
    let k : (a.1.kind == 39) ≡ true = ap (λ x. x.kind == 39) (sym is) ∙ ap (λ x. x == 39) kind in
    let x : Record = record { owner = a.0; kind = 5; ttl = a.1.ttl; rdata = wire_of (behind a.0 a.1) } in
    let reached : target ≡ behind a.0 a.1 = to ∙ ap (λ n. behind n a.1) named in
    let f1 : w1 ≡ also w (entries_octets q (dname_entries before a.1)) =
    e1 ∙ ap (λ y. also w (entries_octets q (dname_entries before y))) is in
    let f2 : w2 ≡ also w1
    (entry_octets q (record { owner = a.0; kind = 5; ttl = a.1.ttl; rdata = wire_of (behind a.0 a.1) })) =
    e2 ∙ (λ i. also w1
    (entry_octets q (record { owner = named i; kind = 5; ttl = (is i).ttl; rdata = wire_of (reached i) }))) in
    both_written q (dname_entries before a.1) (x ∷ []) w w1 w2 f1 (one_written q x w1 w2 f2)
    ∙ ap (λ rs. also w (entries_octets q rs)) (sym (renamer_step before a k))

pub alias_written : (q : Name) (before : Trail) (a : Name × Record) (r : Record) (name : Name) (w w1 : Writing)
    → r ≡ a.1 → name ≡ a.0 → (r.kind ≡ 39 → ⊥)
    → w1 ≡ also w (entry_octets q (entry name r.ttl r)) → w1 ≡ also w (entries_octets q (step_entries before a))
alias_written q before a r name w w1 is named other e =
    let k : (a.1.kind == 39) ≡ false = ap (λ x. x.kind == 39) (sym is) ∙ not_renamer r other in
    let f : w1 ≡ also w (entry_octets q (entry a.0 a.1.ttl a.1)) =
    e ∙ (λ i. also w (entry_octets q (entry (named i) (is i).ttl (is i)))) in
    one_written q (entry a.0 a.1.ttl a.1) w w1 f
    ∙ ap (λ rs. also w (entries_octets q rs)) (sym (alias_step before a k))
