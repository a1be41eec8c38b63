-- What a write adds to a log.
use Rattle.std.proofs.Common.{◌≡◌, ◌+◌, ℕ, true, false, List, [], ◌∷◌, ◌++◌, take, drop, Option, None, Some, refl}
use Rattle.std.proofs.Common.{sym, ap, subst, ◌∙◌, arith, append_assoc, inl, inr}
use Rattle.std.proofs.lemmas.List.{append-nil, take-append-drop}
use Rattle.dz_io.specs.Counts.{HasRisen}
use Rattle.dz_io.specs.Device.{Gains, GainsPrefix}
use Rattle.dz_name.specs.Words.{Name, Octets}
use Rattle.dz_history.specs.declared.entry.Entry.{Entry}
use Rattle.dz_provision.specs.Journal.{journal}
use Rattle.dz_provision.specs.Log.{Aside, IsRemark, text_of, Part, listed, beside, written, told, wants, starved_lines}
use Rattle.dz_provision.specs.Log.{IsLog, IsLogFront, IsLogged}
use Rattle.dz_provision.specs.Log as asides

-- after a log of the one list these lines make a log of the other, with a next count of lines of want of memory
abbrev pub JoinsBy : (ℕ → ℕ) → List Entry → Octets → List Entry → Type 0
JoinsBy next list lines later =
    (count : ℕ) (text : Octets) → IsLog list count text → IsLog later (next count) (text ++ lines)

-- and with the same count
abbrev pub Joins : List Entry → Octets → List Entry → Type 0
Joins list lines later = JoinsBy (λ n. n) list lines later

written_append : (ps qs : List Part) → written (ps ++ qs) ≡ written ps ++ written qs
written_append [] qs = refl
written_append (listed text ∷ ps) qs = rw (written_append ps qs) (sym (append_assoc text (written ps) (written qs)))
written_append (beside aside ∷ ps) qs =
    rw (written_append ps qs) (sym (append_assoc (text_of aside) (written ps) (written qs)))

told_append : (ps qs : List Part) → told (ps ++ qs) ≡ told ps ++ told qs
told_append [] qs = refl
told_append (listed text ∷ ps) qs = rw (told_append ps qs) refl
told_append (beside aside ∷ ps) qs = told_append ps qs

starved_append : (ps qs : List Part) → starved_lines (ps ++ qs) ≡ starved_lines qs + starved_lines ps
starved_append [] qs = omega arith
starved_append (listed text ∷ ps) qs = starved_append ps qs
starved_append (beside aside ∷ ps) qs = omega (arith, starved_append ps qs)

starved_beside : (ps : List Part) (aside : Aside) (count : ℕ) → starved_lines ps ≡ count
    → starved_lines (ps ++ beside aside ∷ []) ≡ count + wants aside
starved_beside ps aside count counts = omega (arith, starved_append ps (beside aside ∷ []), counts)

pub joins_nothing : (list : List Entry) → Joins list [] list
joins_nothing list count text log = rw (append-nil text) log

joins_beside : (list : List Entry) (aside : Aside) → JoinsBy (λ n. n + wants aside) list (text_of aside) list
unfolding IsLog
joins_beside list aside count text (parts, is, tells, counts) = (
  parts ++ beside aside ∷ [],
  rw (is, written_append parts (beside aside ∷ []), append-nil (text_of aside)) refl,
  rw (told_append parts (beside aside ∷ []), append-nil (told parts)) tells,
  starved_beside parts aside count counts,
)

pub joins_aside : (list : List Entry) (aside : Aside) → wants aside ≡ 0 → Joins list (text_of aside) list
joins_aside list aside none count text log =
    let same : count + wants aside ≡ count = omega (arith, none) in
    subst (λ n. IsLog list n (text ++ text_of aside)) same (joins_beside list aside count text log)

-- the line of want of memory, which counts
pub joins_starved : (list : List Entry) (zone : Name)
    → JoinsBy (λ n. n + 1) list (text_of (asides.starved zone)) list
joins_starved list zone = joins_beside list (asides.starved zone)

-- what can be said beside events doesn't
pub remark_wants : (aside : Aside) → IsRemark aside → wants aside ≡ 0
remark_wants asides.idle is = refl
remark_wants asides.full is = refl
remark_wants (asides.replied octets) is = refl
remark_wants asides.silent is = refl
remark_wants (asides.unkept zone fault) is = refl
remark_wants (asides.handed job) is = absurd is
remark_wants (asides.refused zone fault) is = absurd is
remark_wants (asides.unapproved zone standing) is = absurd is
remark_wants (asides.stale zone position) is = absurd is
remark_wants (asides.starved zone) is = absurd is
remark_wants (asides.failed zone failure) is = absurd is
remark_wants (asides.heard zone how) is = absurd is

pub joins_listed : (list later : List Entry) (lines : Octets) → journal later ≡ journal list ++ lines ∷ []
    → Joins list lines later
unfolding IsLog
joins_listed list later lines more count text (parts, is, tells, counts) = (
  parts ++ listed lines ∷ [],
  rw (is, written_append parts (listed lines ∷ []), append-nil lines) refl,
  rw (told_append parts (listed lines ∷ []), tells, more) refl,
  omega (arith, starved_append parts (listed lines ∷ []), counts),
)

-- what a write leaves, whether it succeeds or fails
pub logged_on : (list later : List Entry) (next : ℕ → ℕ) (count : ℕ) (lines : Octets) (before after : Option Octets)
    → JoinsBy next list lines later → IsLogged list count before false → Gains lines before after
    → IsLogged later (next count) after false
logged_on list later next count lines None after joins log gains text is = absurd (cc (gains, is))
logged_on list later next count lines (Some old) after joins log gains text is =
    let now : text ≡ old ++ lines = cc (gains, is) in
    subst (IsLog later (next count)) (sym now) (joins count old (log old refl))

pub logged_off : (list later : List Entry) (next : ℕ → ℕ) (count : ℕ) (lines : Octets) (before after : Option Octets)
    → JoinsBy next list lines later → IsLogged list count before false → GainsPrefix lines before after
    → IsLogged later count after true
unfolding IsLogFront
logged_off list later next count lines None after joins log gains text is = absurd (cc (gains.2, is))
logged_off list later next count lines (Some old) after joins log gains text is =
    let now : text ≡ old ++ take gains.0 lines = cc (gains.2, is) in
    let whole : text ++ drop gains.0 lines ≡ old ++ lines =
    ap (λ t. t ++ drop gains.0 lines) now ∙ (append_assoc old (take gains.0 lines) (drop gains.0 lines)
    ∙ ap (λ t. old ++ t) (take-append-drop gains.0 lines)) in
    (old ++ lines, next count, (drop gains.0 lines, whole), joins count old (log old refl))

-- an output that began without a fault
pub risen : (before now : ℕ) → before ≡ 0 → HasRisen before now → HasRisen 0 now
risen before now none (inl h) = inl (omega (arith, h, none))
risen before now none (inr h) = inr h

-- what holds nothing is a log of a list without lines
pub nothing_logged : (list : List Entry) (before : Option Octets) → journal list ≡ []
    → ((text : Octets) → before ≡ Some text → text ≡ []) → IsLogged list 0 before false
unfolding IsLog
nothing_logged list before none empty text is = ([], empty text is, sym none, refl)
