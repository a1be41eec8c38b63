-- RRsets gained one after the other.
use Rattle.std.proofs.Common.{◌≡◌, ℕ, arith, ◌+◌, ◌<◌, ◌≤◌, List, [], ◌∷◌, ◌++◌, length, drop, get_or, refl, sym, ◌∙◌}
use Rattle.std.proofs.Common.{ap}
use Rattle.std.proofs.lemmas.List.{drop_more, drop_all}
use Rattle.std.specs.Prelude.{true}
use Rattle.dz_name.specs.Words.{Name}
use Rattle.dz_name.specs.Name.{same_name}
use Rattle.dz_record.specs.Record.{Record}
use Rattle.dz_lookup.specs.Chain.{Trail}
use Rattle.dz_secure.specs.Secure.{proof}
use Rattle.dz_lookup.specs.Found.{Found, here}
use Rattle.dz_reply.specs.Secure.{gain, gain_all, wildcard_set, wildcard_proofs, first_wildcard, authority_sets}

pub all_append : (sets a b : List (List Record)) → gain_all sets (a ++ b) ≡ gain_all (gain_all sets a) b
unfolding gain_all
all_append sets [] b = refl
all_append sets (rs ∷ a) b = all_append (gain sets rs) a b

pub all_none : (sets : List (List Record)) → sets ≡ gain_all sets []
unfolding gain_all
all_none sets = refl

pub all_one : (sets : List (List Record)) (rs : List Record) → gain sets rs ≡ gain_all sets (rs ∷ [])
unfolding gain_all
all_one sets rs = refl

pub all_two : (sets one two : List (List Record)) (a b : List Record) → one ≡ gain sets a → two ≡ gain one b
    → two ≡ gain_all sets (a ∷ b ∷ [])
unfolding gain_all
all_two sets one two a b e f = f ∙ ap (λ s. gain s b) e

pub step_more : (zone : List Record) (trail : Trail) (k : ℕ) (d : Name × Record) (start sets more : List (List Record))
    → k < length trail → more ≡ gain sets (wildcard_set zone (get_or trail k d))
    → gain_all sets (wildcard_proofs zone (drop k trail)) ≡ gain_all start (wildcard_proofs zone trail)
    → gain_all more (wildcard_proofs zone (drop (k + 1) trail)) ≡ gain_all start (wildcard_proofs zone trail)
unfolding gain_all
step_more zone trail k d start sets more lt is so_far =
    let split : wildcard_proofs zone (drop k trail) ≡ wildcard_set zone (get_or trail k d)
    ∷ wildcard_proofs zone (drop (k + 1) trail) = ap (wildcard_proofs zone) (drop_more trail k d lt) in
    ap (λ s. gain_all s (wildcard_proofs zone (drop (k + 1) trail))) is ∙ (ap (gain_all sets) (sym split) ∙ so_far)

pub step_all : (zone : List Record) (trail : Trail) (k : ℕ) (start sets : List (List Record)) → length trail ≤ k
    → gain_all sets (wildcard_proofs zone (drop k trail)) ≡ gain_all start (wildcard_proofs zone trail)
    → sets ≡ gain_all start (wildcard_proofs zone trail)
step_all zone trail k start sets le so_far =
    let none : wildcard_proofs zone (drop k trail) ≡ [] = ap (wildcard_proofs zone) (drop_all k trail le) in
    all_none sets ∙ (ap (gain_all sets) (sym none) ∙ so_far)

pub all_three : (s0 s1 s2 s3 : List (List Record)) (a b c : List Record) → s1 ≡ gain s0 a → s2 ≡ gain s1 b
    → s3 ≡ gain s2 c → s3 ≡ gain_all s0 (a ∷ b ∷ c ∷ [])
unfolding gain_all
all_three s0 s1 s2 s3 a b c e f g = g ∙ ap (λ s. gain s c) (f ∙ ap (λ s. gain s b) e)

pub own_first : (zone : List Record) (name : Name) (rs : List Record) (r : Record) → 1 ≤ length rs → r ≡ get_or rs 0 r
    → same_name r.owner name ≡ true → [] ≡ first_wildcard zone name rs
own_first zone name [] r some is same = absurd (omega arith)
own_first zone name (s ∷ ss) r some is same =
    let e : same_name s.owner name ≡ true = ap (λ x. same_name x.owner name) (sym is) ∙ same in rw e refl

pub alone_sets : (zone : List Record) (trail : Trail) (last : Found) (name : Name) (rs : List Record)
    → length trail ≡ 0 → last ≡ here rs → [] ≡ first_wildcard zone name rs → [] ≡ authority_sets zone trail last name
unfolding gain gain_all proof
alone_sets zone [] last name rs few is none = rw (is, ← none) refl
alone_sets zone (a ∷ trail) last name rs few is none = absurd (omega (arith, few))
