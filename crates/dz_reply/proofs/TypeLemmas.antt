-- The records of an owner type by type, and how many octets records have at least.
use Rattle.std.proofs.Common.{◌≡◌, ℕ, ◌+◌, ◌-◌, ◌*◌, ◌<◌, ◌≤◌, Bool, true, List, [], ◌∷◌, ◌++◌, length, drop}
use Rattle.std.proofs.Common.{suc, inl, inr, get_or, get_or-drop, refl, sym, ◌∙◌, ap, arith, length-append}
use Rattle.std.specs.Prelude.{filter, map, not, ◌==◌, if◌then◌else◌, min, fold}
use Rattle.std.specs.List.{All, flat_map}
use Rattle.std.specs.List.Sorted.{IsNonDecreasingBy}
use Rattle.std.proofs.lemmas.Bool.{cases_Bool}
use Rattle.std.proofs.lemmas.Bool.Decides.{nat_tests}
use Rattle.std.proofs.lemmas.List.{map-append, drop-drop, drop_at, drop_more, drop_all, get_or_default, length-drop}
use Rattle.std.proofs.lemmas.List.Elements.{All-tail}
use Rattle.std.proofs.lemmas.List.Sorted.{IsNonDecreasingBy-drop}
use Rattle.dz_name.specs.Name.{is_within, wire_of}
use Rattle.dz_name.specs.Numbers.{two, four}
use Rattle.dz_name.proofs.NumberLemmas.{length_two, length_four}
use Rattle.dz_record.specs.Record.{Record, octets_behind_owner}
use Rattle.dz_runs.proofs.RunLemmas.{filter_none}
use Rattle.dz_header.specs.Writing.{Writing, also, left, over}
use Rattle.dz_header.proofs.WriterLemmas.{also_past}
use Rattle.dz_reply.specs.Layout.{owner_octets, entry_octets, entries_octets, entries, entry, entry_ttl}
use Rattle.dz_reply.proofs.AnswerLemmas.{both_written, none_written, length-entries}

-- an owner has at least one octet
owner_some : (question owner : List (List ℕ)) → 1 ≤ length (owner_octets question owner)
unfolding owner_octets
owner_some question [] = omega arith
owner_some question (label ∷ labels) = elim (cases_Bool (is_within question (label ∷ labels))) [
  | inl t ↦
      rw t (omega (arith, length_two (49152 + (12 + (length (wire_of question) - length (wire_of (label ∷ labels)))))))
  | inr f ↦ rw f (omega arith)
]

behind_some : (r : Record) → 10 ≤ length (octets_behind_owner r)
behind_some r =
    let size : List ℕ = two (length r.rdata) ++ r.rdata in
    omega (
      arith,
      length-append (two r.kind) (two 1 ++ (four r.ttl ++ size)),
      length-append (two 1) (four r.ttl ++ size),
      length-append (four r.ttl) size,
      length-append (two (length r.rdata)) r.rdata,
      length_two r.kind,
      length_two 1,
      length_four r.ttl,
      length_two (length r.rdata),
    )

entry_long : (question : List (List ℕ)) (r : Record) → 11 ≤ length (entry_octets question r)
unfolding entry_octets
entry_long question r = omega (
  arith,
  length-append (owner_octets question r.owner) (octets_behind_owner r),
  owner_some question r.owner,
  behind_some r,
)

-- so records have at least eleven octets each
pub entries_long : (question : List (List ℕ)) (rs : List Record) → 11 * length rs ≤ length (entries_octets question rs)
unfolding entries_octets
entries_long question [] = omega arith
entries_long question (r ∷ rs) = omega (
  arith,
  length-append (entry_octets question r) (flat_map (entry_octets question) rs),
  entry_long question r,
  entries_long question rs,
)

-- records that are too many for the room that is left
pub too_many : (question owner : List (List ℕ)) (rs : List Record) (w w1 : Writing) → left w < 11 * length rs
    → w1 ≡ over w → w1 ≡ also w (entries_octets question (entries owner rs))
too_many question owner rs w w1 many is = is ∙ sym (also_past w (entries_octets question (entries owner rs))
    (omega (arith, many, entries_long question (entries owner rs), length-entries owner rs)))

-- a test can come after one that it implies
implied : {X : Type 0} (p q : X → Bool) → ((x : X) → q x ≡ true → p x ≡ true) → (xs : List X)
    → filter q (filter p xs) ≡ filter q xs
implied p q h [] = refl
implied p q h (x ∷ xs) = elim (cases_Bool (q x)) [
  | inl u ↦ rw (h x u, u) (ap (λ ys. x ∷ ys) (implied p q h xs))
  | inr u ↦ elim (cases_Bool (p x)) [
    | inl t ↦ rw (t, u) (implied p q h xs)
    | inr f ↦ rw (f, u) (implied p q h xs)
  ]
]

-- two functions agree on what passes a test
mapped : {X Y : Type 0} (p : X → Bool) (f g : X → Y) → ((x : X) → p x ≡ true → f x ≡ g x) → (xs : List X)
    → map f (filter p xs) ≡ map g (filter p xs)
mapped p f g h [] = refl
mapped p f g h (x ∷ xs) = elim (cases_Bool (p x)) [
  | inl t ↦ rw t (λ i. h x t i ∷ mapped p f g h xs i)
  | inr e ↦ rw e (mapped p f g h xs)
]

-- the records of a type, and the others
abbrev is_of : ℕ → Record → Bool
is_of kind r = r.kind == kind

abbrev is_other : ℕ → Record → Bool
is_other kind r = not (r.kind == kind)

-- in a list in the order of type those of the first type come first
pub apart : (kind : ℕ) (rs : List Record) → IsNonDecreasingBy (λ r. r.kind) rs → All (λ r. kind ≤ r.kind) rs
    → filter (is_of kind) rs ++ filter (is_other kind) rs ≡ rs
apart kind [] up low = refl
apart kind (r ∷ rs) up low =
    let rest : filter (is_of kind) rs ++ filter (is_other kind) rs ≡ rs =
    apart kind rs (λ i j d le within. up (suc i) (suc j) d (omega arith) (omega arith))
    (All-tail (λ (s : Record). kind ≤ s.kind) r rs low) in
    elim (cases_Bool (r.kind == kind)) [
      | inl t ↦ rw t (ap (λ ss. r ∷ ss) rest)
      | inr f ↦
          let first : kind ≤ r.kind = low 0 r (omega arith) in
          let none : filter (is_of kind) rs ≡ [] =
          filter_none (is_of kind) rs (λ k d within.
          let later : r.kind ≤ (get_or rs k d).kind = up 0 (suc k) d (omega arith) (omega arith) in
          grind (arith, nat_tests)) in
          let kept : filter (is_other kind) rs ≡ rs = rw none at rest in
          rw (f, none) (ap (λ ss. r ∷ ss) kept)
    ]

-- the TTL that a record shows depends on the records of its type alone
ttl_among : (p : Record → Bool) (rs : List Record) (r : Record) → ((s : Record) → (s.kind == r.kind) ≡ true
    → p s ≡ true) → entry_ttl rs r ≡ entry_ttl (filter p rs) r
ttl_among p rs r h =
    ap (λ ss. if r.kind == 46 then r.ttl else fold (λ least s. min least s.ttl) 2147483647 ss)
    (sym (implied p (λ s. s.kind == r.kind) h rs))

-- so the records of the first type and the others can be shown one after the other
pub shown_apart : (owner : List (List ℕ)) (kind : ℕ) (rs : List Record)
    → filter (is_of kind) rs ++ filter (is_other kind) rs ≡ rs
    → entries owner rs ≡ entries owner (filter (is_of kind) rs) ++ entries owner (filter (is_other kind) rs)
unfolding entries
shown_apart owner kind rs is =
    let all : Record → Record = λ r. entry owner (entry_ttl rs r) r in
    let one : Record → Record = λ r. entry owner (entry_ttl (filter (is_of kind) rs) r) r in
    let two : Record → Record = λ r. entry owner (entry_ttl (filter (is_other kind) rs) r) r in
    let first : map all (filter (is_of kind) rs) ≡ map one (filter (is_of kind) rs) =
    mapped (is_of kind) all one (λ r t. ap (λ ttl. entry owner ttl r)
    (ttl_among (is_of kind) rs r (λ s same. grind (arith, nat_tests)))) rs in
    let second : map all (filter (is_other kind) rs) ≡ map two (filter (is_other kind) rs) =
    mapped (is_other kind) all two (λ r t. ap (λ ttl. entry owner ttl r)
    (ttl_among (is_other kind) rs r (λ s same. grind (arith, nat_tests)))) rs in
    ap (map all) (sym is) ∙ map-append all (filter (is_of kind) rs) (filter (is_other kind) rs)
    ∙ (λ i. first i ++ second i)

module _ (records : List Record) (begin : ℕ) (d : Record) (up : IsNonDecreasingBy (λ r. r.kind) records)
    (lt : begin < length records) (run : List Record)
    (is : run ≡ filter (is_of (get_or records begin d).kind) (drop begin records)) where
  abbrev kind : ℕ
  kind = (get_or records begin d).kind

  abbrev rest : List Record
  rest = drop begin records

  parts : filter (is_of kind) rest ++ filter (is_other kind) rest ≡ rest
  parts = apart kind rest (IsNonDecreasingBy-drop (λ r. r.kind) begin records up) (λ k e within.
      let long = length-drop begin records in
      let there : get_or rest k e ≡ get_or records (begin + k) e = get_or-drop begin records k e in
      let same : get_or records begin d ≡ get_or records begin e = get_or_default records begin d e lt in
      let later : (get_or records begin e).kind ≤ (get_or records (begin + k) e).kind =
      up begin (begin + k) e (omega arith) (omega (arith, within)) in
      omega (arith, later, ap (λ (r : Record). r.kind) there, ap (λ (r : Record). r.kind) same))

  others : drop (begin + length run) records ≡ filter (is_other kind) rest
  others = sym (drop-drop (length run) begin records)
      ∙ (ap (drop (length run)) (sym parts) ∙ drop_at (filter (is_of kind) rest) (filter (is_other kind) rest)
      (length run) (ap length (sym is)))

  -- after the records of the first type
  pub type_written : (question owner : List (List ℕ)) (start w w1 : Writing)
      → w1 ≡ also w (entries_octets question (entries owner run))
      → also w (entries_octets question (entries owner (drop begin records))) ≡ start
      → also w1 (entries_octets question (entries owner (drop (begin + length run) records))) ≡ start
  type_written question owner start w w1 e so_far =
      let both : also w1 (entries_octets question (entries owner (filter (is_other kind) rest)))
      ≡ also w (entries_octets question (entries owner (filter (is_of kind) rest)
      ++ entries owner (filter (is_other kind) rest))) =
      both_written question (entries owner (filter (is_of kind) rest)) (entries owner (filter (is_other kind) rest))
      w w1 _ (rw is at e) refl in
      rw others (both ∙ ap (λ rs. also w (entries_octets question rs)) (sym (shown_apart owner kind rest parts)) ∙ so_far)

  pub type_within : begin + length run ≤ length records
  type_within =
      let all = ap length parts in
      omega (
        arith,
        all,
        ap length is,
        length-append (filter (is_of kind) rest) (filter (is_other kind) rest),
        length-drop begin records,
      )

  -- there is at least one of them
  pub type_some : 1 ≤ length run
  type_some =
      let first : rest ≡ get_or records begin d ∷ drop (begin + 1) records = drop_more records begin d lt in
      let itself : is_of kind (get_or records begin d) ≡ true = grind (arith, nat_tests) in
      let kept : filter (is_of kind) rest ≡ get_or records begin d ∷ filter (is_of kind) (drop (begin + 1) records) =
      ap (filter (is_of kind)) first ∙ rw itself refl in
      omega (arith, ap length is, ap length kept)

-- after all of them
pub types_done : (question owner : List (List ℕ)) (records : List Record) (begin : ℕ) (start w : Writing)
    → length records ≤ begin
    → also w (entries_octets question (entries owner (drop begin records))) ≡ start → w ≡ start
unfolding entries
types_done question owner records begin start w le so_far = none_written question w
    ∙ ap (λ rs. also w (entries_octets question (entries owner rs))) (sym (drop_all begin records le)) ∙ so_far
