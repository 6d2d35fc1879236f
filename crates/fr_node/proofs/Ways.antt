-- What is listed of some links, those that pass a test, and of one link more.
use Rattle.std.proofs.Common.{Bool, List, [], ap, cond, false, get_or, length, map, take, true, ℕ, ◌++◌, ◌+◌, ◌<◌, ◌∷◌}
use Rattle.std.proofs.Common.{◌∙◌, ◌≡◌}
use Rattle.std.specs.List.{filter}
use Rattle.std.proofs.lemmas.List.{append-nil, length_push, map_push, take_more}
use Rattle.std.proofs.lemmas.List.Elements.{filter-append}
use Rattle.fr_node.specs.declared.link.Link.{Link}

pub listed_more : {A : Type 0} (passes : Link → Bool) (f : Link → A) (ls : List Link) (n : ℕ) (e : Link)
    → n < length ls → passes (get_or ls n e) ≡ true
    → map f (filter passes (take (n + 1) ls)) ≡ map f (filter passes (take n ls)) ++ f (get_or ls n e) ∷ []
listed_more passes f ls n e h t = ap (λ ks. map f (filter passes ks)) (take_more ls n e h)
    ∙ ap (map f) (filter-append passes (take n ls) (get_or ls n e ∷ [])
    ∙ ap (λ b. filter passes (take n ls) ++ cond b (get_or ls n e ∷ []) []) t)
    ∙ map_push f (filter passes (take n ls)) (get_or ls n e)

pub listed_same : {A : Type 0} (passes : Link → Bool) (f : Link → A) (ls : List Link) (n : ℕ) (e : Link)
    → n < length ls → passes (get_or ls n e) ≡ false
    → map f (filter passes (take (n + 1) ls)) ≡ map f (filter passes (take n ls))
listed_same passes f ls n e h t = ap (λ ks. map f (filter passes ks)) (take_more ls n e h)
    ∙ ap (map f) (filter-append passes (take n ls) (get_or ls n e ∷ [])
    ∙ ap (λ b. filter passes (take n ls) ++ cond b (get_or ls n e ∷ []) []) t
    ∙ append-nil (filter passes (take n ls)))

-- one is added to a list
pub pushed : {A : Type 0} (before after listed : List A) (x : A) → after ≡ before ++ x ∷ [] → before ≡ listed
    → after ≡ listed ++ x ∷ []
pushed before after listed x e f = e ∙ ap (λ xs. xs ++ x ∷ []) f

pub length_pushed : {A : Type 0} (before after : List A) (x : A) → after ≡ before ++ x ∷ []
    → length after ≡ length before + 1
length_pushed before after x e = ap length e ∙ length_push before x
