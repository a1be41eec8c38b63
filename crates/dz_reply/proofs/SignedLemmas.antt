-- What a chain shows with signatures, step by step.
use Rattle.std.proofs.Common.{◌≡◌, ℕ, ◌+◌, ◌%◌, ◌<◌, ◌≤◌, Bool, true, false, List, [], ◌∷◌, ◌++◌, length, take, drop}
use Rattle.std.proofs.Common.{get_or, refl, sym, ◌∙◌, ap, arith, length-append}
use Rattle.std.specs.Prelude.{◌==◌}
use Rattle.std.specs.List.{list_any}
use Rattle.std.proofs.lemmas.List.{drop_more, drop_all, take_more}
use Rattle.std.proofs.lemmas.Bool.{eqb-true, false_from_ne_true}
use Rattle.dz_name.specs.Words.{Name}
use Rattle.dz_name.specs.Name.{wire_of}
use Rattle.dz_record.specs.Record.{Record, same_record}
use Rattle.dz_lookup.specs.Chain.{Trail}
use Rattle.dz_lookup.specs.inner.Links.{behind}
use Rattle.dz_header.specs.Writing.{Writing, also}
use Rattle.dz_reply.specs.Layout.{entry_octets, entries_octets, entry, entries}
use Rattle.dz_reply.specs.Secure.{beside, renamer_set, secure_step, secure_trail}
use Rattle.dz_reply.proofs.AnswerLemmas.{both_written, none_written, one_written}

-- signatures
pub beside_none : (zone : List Record) (owner : Name) (r : Record) (rs : List Record) → rs ≡ []
    → entries owner rs ≡ beside zone true owner r
unfolding entries
beside_none zone owner r rs is = rw is refl

-- one record and what signs it
pub cons_written : (q : Name) (r : Record) (rs : List Record) (w w1 w2 : Writing) → w1 ≡ also w (entry_octets q r)
    → w2 ≡ also w1 (entries_octets q rs) → w2 ≡ also w (entries_octets q (r ∷ rs))
cons_written q r rs w w1 w2 e f = both_written q (r ∷ []) rs w w1 w2 (one_written q r w w1 e) f

-- a DNAME
pub renamer_there : (zone : List Record) (bare : Bool) (before : Trail) (r : Record)
    → list_any (λ a. same_record a.1 r) before ≡ true → renamer_set zone bare before r ≡ []
renamer_there zone bare before r h = rw h refl

pub renamer_not_there : (zone : List Record) (bare : Bool) (before : Trail) (r : Record)
    → list_any (λ a. same_record a.1 r) before ≡ false
    → renamer_set zone bare before r ≡ entry r.owner r.ttl r ∷ beside zone false r.owner r
renamer_not_there zone bare before r h = rw h refl

not_renamer : (r : Record) → (r.kind ≡ 39 → ⊥) → (r.kind == 39) ≡ false
not_renamer r other = false_from_ne_true (r.kind == 39) (λ t. other (eqb-true r.kind 39 t))

-- a step
alias_step : (zone : List Record) (bare : Bool) (before : Trail) (a : Name × Record) → (a.1.kind == 39) ≡ false
    → secure_step zone bare before a ≡ entry a.0 a.1.ttl a.1 ∷ beside zone bare a.0 a.1
unfolding secure_step
alias_step zone bare before a other = rw other refl

pub renamer_step : (zone : List Record) (bare : Bool) (before : Trail) (a : Name × Record) → (a.1.kind == 39) ≡ true
    → secure_step zone bare before a ≡ renamer_set zone bare before a.1
    ++ record { owner = a.0; kind = 5; ttl = a.1.ttl; rdata = wire_of (behind a.0 a.1) } ∷ []
unfolding secure_step
renamer_step zone bare before a is = rw is refl

pub renamer_written : (zone : List Record) (bare : Bool) (q : Name) (before : Trail) (a : Name × Record) (r : Record)
    (name target : Name) (w w1 w2 : Writing) → r ≡ a.1 → name ≡ a.0 → target ≡ behind name a.1 → r.kind ≡ 39
    → w1 ≡ also w (entries_octets q (renamer_set zone bare before r))
    → w2 ≡ also w1 (entry_octets q (record { owner = name; kind = 5; ttl = r.ttl; rdata = wire_of target }))
    → w2 ≡ also w (entries_octets q (secure_step zone bare before a))
renamer_written zone bare q before a r name target w w1 w2 is named to kind e1 e2 =
    let k : (a.1.kind == 39) ≡ true = ap (λ x. x.kind == 39) (sym is) ∙ ap (λ x. x == 39) kind in
    let x : Record = record { owner = a.0; kind = 5; ttl = a.1.ttl; rdata = wire_of (behind a.0 a.1) } in
    let reached : target ≡ behind a.0 a.1 = to ∙ ap (λ n. behind n a.1) named in
    let f1 : w1 ≡ also w (entries_octets q (renamer_set zone bare before a.1)) =
    e1 ∙ ap (λ y. also w (entries_octets q (renamer_set zone bare before y))) is in
    let f2 : w2 ≡ also w1
    (entry_octets q (record { owner = a.0; kind = 5; ttl = a.1.ttl; rdata = wire_of (behind a.0 a.1) })) =
    e2 ∙ (λ i. also w1
    (entry_octets q (record { owner = named i; kind = 5; ttl = (is i).ttl; rdata = wire_of (reached i) }))) in
    both_written q (renamer_set zone bare before a.1) (x ∷ []) w w1 w2 f1 (one_written q x w1 w2 f2)
    ∙ ap (λ rs. also w (entries_octets q rs)) (sym (renamer_step zone bare before a k))

pub alias_written : (zone : List Record) (bare : Bool) (q : Name) (before : Trail) (a : Name × Record) (r : Record)
    (name : Name) (w w1 w2 : Writing) → r ≡ a.1 → name ≡ a.0 → (r.kind ≡ 39 → ⊥)
    → w1 ≡ also w (entry_octets q (entry name r.ttl r)) → w2 ≡ also w1 (entries_octets q (beside zone bare name r))
    → w2 ≡ also w (entries_octets q (secure_step zone bare before a))
alias_written zone bare q before a r name w w1 w2 is named other e1 e2 =
    let k : (a.1.kind == 39) ≡ false = ap (λ x. x.kind == 39) (sym is) ∙ not_renamer r other in
    cons_written q (entry name r.ttl r) (beside zone bare name r) w w1 w2 e1 e2
    ∙ ((λ i. also w (entries_octets q (entry (named i) (is i).ttl (is i) ∷ beside zone bare (named i) (is i))))
    ∙ ap (λ rs. also w (entries_octets q rs)) (sym (alias_step zone bare before a k)))

pub renamer_counted : (zone : List Record) (bare : Bool) (before : Trail) (a : Name × Record) (r : Record) (n : ℕ)
    → r ≡ a.1 → r.kind ≡ 39 → n ≡ length (renamer_set zone bare before r) % 65536
    → (n + 1) % 65536 ≡ length (secure_step zone bare before a) % 65536
renamer_counted zone bare before a r n is kind count =
    let k : (a.1.kind == 39) ≡ true = ap (λ x. x.kind == 39) (sym is) ∙ ap (λ x. x == 39) kind in
    let e = ap length (renamer_step zone bare before a k) in
    let f = length-append (renamer_set zone bare before a.1)
    (record { owner = a.0; kind = 5; ttl = a.1.ttl; rdata = wire_of (behind a.0 a.1) } ∷ []) in
    let g : n ≡ length (renamer_set zone bare before a.1) % 65536 =
    count ∙ ap (λ x. length (renamer_set zone bare before x) % 65536) is in
    omega (arith, e, f, g)

pub alias_counted : (zone : List Record) (bare : Bool) (before : Trail) (a : Name × Record) (r : Record) (n : ℕ)
    → r ≡ a.1 → (r.kind ≡ 39 → ⊥) → n ≡ length (beside zone bare a.0 r) % 65536
    → (1 + n) % 65536 ≡ length (secure_step zone bare before a) % 65536
alias_counted zone bare before a r n is other count =
    let k : (a.1.kind == 39) ≡ false = ap (λ x. x.kind == 39) (sym is) ∙ not_renamer r other in
    let e = ap length (alias_step zone bare before a k) in
    let g : n ≡ length (beside zone bare a.0 a.1) % 65536 =
    count ∙ ap (λ x. length (beside zone bare a.0 x) % 65536) is in
    omega (arith, e, g)

-- all steps
step_on : (zone : List Record) (bare : Bool) (trail : Trail) (k : ℕ) (d : Name × Record) → k < length trail
    → secure_trail zone bare (take k trail) (drop k trail) ≡ secure_step zone bare (take k trail) (get_or trail k d)
    ++ secure_trail zone bare (take (k + 1) trail) (drop (k + 1) trail)
unfolding secure_trail
step_on zone bare trail k d lt = rw (drop_more trail k d lt, take_more trail k d lt) refl

at_last : (zone : List Record) (bare : Bool) (trail : Trail) (k : ℕ) → length trail ≤ k
    → secure_trail zone bare (take k trail) (drop k trail) ≡ []
unfolding secure_trail
at_last zone bare trail k le = rw (drop_all k trail le) refl

pub counted_more : (zone : List Record) (bare : Bool) (trail : Trail) (k count one : ℕ) (d : Name × Record)
    → k < length trail → one ≡ length (secure_step zone bare (take k trail) (get_or trail k d)) % 65536
    → (count + length (secure_trail zone bare (take k trail) (drop k trail))) % 65536
    ≡ length (secure_trail zone bare [] trail) % 65536
    → ((count + one) % 65536 + length (secure_trail zone bare (take (k + 1) trail) (drop (k + 1) trail))) % 65536
    ≡ length (secure_trail zone bare [] trail) % 65536
counted_more zone bare trail k count one d lt is so_far =
    let e = rw (step_on zone bare trail k d lt) at so_far in
    omega (
      arith,
      e,
      is,
      length-append (secure_step zone bare (take k trail) (get_or trail k d))
          (secure_trail zone bare (take (k + 1) trail) (drop (k + 1) trail)),
    )

pub counted_all : (zone : List Record) (bare : Bool) (trail : Trail) (k count : ℕ) → length trail ≤ k → count < 65536
    → (count + length (secure_trail zone bare (take k trail) (drop k trail))) % 65536
    ≡ length (secure_trail zone bare [] trail) % 65536 → count ≡ length (secure_trail zone bare [] trail) % 65536
counted_all zone bare trail k count le small so_far =
    let e = rw (at_last zone bare trail k le) at so_far in
    omega (arith, e)

pub written_more : (zone : List Record) (bare : Bool) (q : Name) (trail : Trail) (k : ℕ) (start w w1 : Writing)
    (d : Name × Record) → k < length trail
    → w1 ≡ also w (entries_octets q (secure_step zone bare (take k trail) (get_or trail k d)))
    → also w (entries_octets q (secure_trail zone bare (take k trail) (drop k trail)))
    ≡ also start (entries_octets q (secure_trail zone bare [] trail))
    → also w1 (entries_octets q (secure_trail zone bare (take (k + 1) trail) (drop (k + 1) trail)))
    ≡ also start (entries_octets q (secure_trail zone bare [] trail))
written_more zone bare q trail k start w w1 d lt is so_far =
    let rest : List Record = secure_trail zone bare (take (k + 1) trail) (drop (k + 1) trail) in
    let e : also w (entries_octets q (secure_step zone bare (take k trail) (get_or trail k d) ++ rest))
    ≡ also start (entries_octets q (secure_trail zone bare [] trail)) =
    rw (step_on zone bare trail k d lt) at so_far in
    both_written q (secure_step zone bare (take k trail) (get_or trail k d)) rest w w1
    (also w1 (entries_octets q rest)) is refl ∙ e

pub written_all : (zone : List Record) (bare : Bool) (q : Name) (trail : Trail) (k : ℕ) (start w : Writing)
    → length trail ≤ k
    → also w (entries_octets q (secure_trail zone bare (take k trail) (drop k trail)))
    ≡ also start (entries_octets q (secure_trail zone bare [] trail))
    → w ≡ also start (entries_octets q (secure_trail zone bare [] trail))
written_all zone bare q trail k start w le so_far = none_written q w ∙ (rw (at_last zone bare trail k le) at so_far)
