-- The links after a round follow from those before it and from what changed.
use Rattle.std.proofs.Common.{◌≡◌, ◌⊎◌, ℕ, false, true, List, inl, inr, refl, rules, ⊎_elim}
use Rattle.std.proofs.Common.{Bool, not, ◌||◌}
use Rattle.std.proofs.lemmas.Bool.{cases_Bool}
use Rattle.std.proofs.lemmas.List.Elements.{All-contains, All-contains_itself, All-filter}
use Rattle.std.specs.List.{Contains, filter}
use Rattle.fr_graph.specs.Links.{Joins, Points}
use Rattle.fr_graph.specs.Rows.{has_link}
use Rattle.fr_graph.proofs.Linking.{IsOneWay}
use Rattle.fr_graph.proofs.Lists.{filter_passes, into_filter}
use Rattle.fr_graph.proofs.Neighbours.{Points-has_link, has_link_true}
use Rattle.revdot.specs.Changes.{LinksFollow, gone_links, new_links}

out_of_filter : (p : ℕ × ℕ → Bool) (links : List (ℕ × ℕ)) (l : ℕ × ℕ) → Contains (filter p links) l → Contains links l
out_of_filter p links l h =
    All-contains (Contains links) (filter p links) l (All-filter p (Contains links) links (All-contains_itself links)) h

module _ (before after : List (ℕ × ℕ)) (one : IsOneWay before) (two : IsOneWay after) where
  abbrev is_new : ℕ × ℕ → Bool
  is_new l = not (has_link before l.0 l.1)

  abbrev is_gone : ℕ × ℕ → Bool
  is_gone l = not (has_link after l.0 l.1 || has_link after l.1 l.0)

  -- a new link was not there before
  not_before : (u v : ℕ) → Points (new_links before after) u v → ¬ Points before u v
  not_before u v fresh had =
      let passes : is_new (u, v) ≡ true = filter_passes is_new after (u, v) fresh in
      let there : has_link before u v ≡ true = has_link_true before u v had in
      cc (passes, there)

  -- no link joins the ends of a link that is gone
  not_after : (u v : ℕ) → Points (gone_links before after) u v → ¬ Joins after u v
  not_after u v gone (inl there) =
      let passes : is_gone (u, v) ≡ true = filter_passes is_gone before (u, v) gone in
      let out : is_gone (u, v) ≡ false = rw (has_link_true after u v there) refl in
      cc (passes, out)
  not_after u v gone (inr there) =
      let passes : is_gone (u, v) ≡ true = filter_passes is_gone before (u, v) gone in
      let out : is_gone (u, v) ≡ false = rw (has_link_true after v u there) (search rules) in
      cc (passes, out)

  stayed : (u v : ℕ) → Points after u v → Points before u v
      → ¬ Joins (gone_links before after) u v × ¬ Joins (new_links before after) u v
  stayed u v here had = (
    ⊎_elim (λ gone. not_after u v gone (inl here)) (λ gone. not_after v u gone (inr here)),
    ⊎_elim (λ fresh. not_before u v fresh had)
        (λ fresh. two.no_return u v here (out_of_filter is_new after (v, u) fresh)),
  )

  to : (u v : ℕ) → Points after u v → Points (new_links before after) u v
      ⊎ (Points before u v × ¬ Joins (gone_links before after) u v × ¬ Joins (new_links before after) u v)
  to u v here =
      elim (cases_Bool (has_link before u v)) [
        | inl had ↦ (let p = Points-has_link before u v had in (let s = stayed u v here p in inr (p, s.0, s.1)))
        | inr none ↦ inl (into_filter is_new after (u, v) here (rw none refl))
      ]

  back : (u v : ℕ) → Points (new_links before after) u v
      ⊎ (Points before u v × ¬ Joins (gone_links before after) u v × ¬ Joins (new_links before after) u v)
      → Points after u v
  back u v (inl fresh) = out_of_filter is_new after (u, v) fresh
  back u v (inr (had, kept, same)) =
      elim (cases_Bool (has_link after u v)) [
        | inl here ↦ Points-has_link after u v here
        | inr away ↦
            elim (cases_Bool (has_link after v u)) [
              | inl turned ↦ absurd (same (inr (turned_is_new u v had (Points-has_link after v u turned))))
              | inr apart ↦ absurd (kept (inl (into_filter is_gone before (u, v) had (rw (away, apart) refl))))
            ]
      ]
    where
      -- the other direction was not there before
      turned_is_new : (u v : ℕ) → Points before u v → Points after v u → Points (new_links before after) v u
      turned_is_new u v had turned =
          elim (cases_Bool (has_link before v u)) [
            | inl both ↦ absurd (one.no_return u v had (Points-has_link before v u both))
            | inr none ↦ into_filter is_new after (v, u) turned (rw none refl)
          ]

  pub links_follow : LinksFollow before after
  links_follow u v = (to u v, back u v)
