-- Routers that go on without a word.
use Rattle.std.proofs.Common.{Contains, List, arith, inl, inr, refl, ℕ, ◌≡◌, ◌≤◌, ◌∙◌}
use Rattle.fr_node.specs.declared.message.Message.{Message}
use Rattle.fr_node.specs.Routers.{GoesOn, IsFrom, Router, TakesAnswer, TakesHeight, TakesStart}

pub goes_nowhere : (pool : List Message) (y : ℕ) (r : Router) → GoesOn pool y r r
goes_nowhere pool y r = record {
  boot = refl;
  number = omega arith;
  announced = λ n l. refl;
  start = λ w. (omega arith, inl refl);
  height = λ w. inl (refl, refl, refl);
  answer = λ w. inl (refl, refl);
}

module _ (pool more : List Message) (grows : (m : Message) → Contains pool m → Contains more m) (y : ℕ)
    (r t : Router) where
  still_from : (w : ℕ) (m : Message) → IsFrom pool y w m → IsFrom more y w m
  still_from w m f = record { said = grows m f.said; from = f.from; to = f.to }

  start_more : (w : ℕ) → TakesStart pool y r t w → TakesStart more y r t w
  start_more w (l, inl e) = (l, inl e)
  start_more w (l, inr (m, f, e)) = (l, inr (m, still_from w m f, e))

  height_more : (w : ℕ) → TakesHeight pool y r t w → TakesHeight more y r t w
  height_more w (inl e) = inl e
  height_more w (inr (inl e)) = inr (inl e)
  height_more w (inr (inr (m, f, e, p, n, v, up))) = inr (inr (m, still_from w m f, e, p, n, v, up))

  answer_more : (w : ℕ) → TakesAnswer pool y r t w → TakesAnswer more y r t w
  answer_more w (inl e) = inl e
  answer_more w (inr (inl e)) = inr (inl e)
  answer_more w (inr (inr (m, f, e, p, v))) = inr (inr (m, still_from w m f, e, p, v))

  -- by more messages
  pub goes_on_more : GoesOn pool y r t → GoesOn more y r t
  goes_on_more g = record {
    boot = g.boot;
    number = g.number;
    announced = g.announced;
    start = λ w. start_more w (g.start w);
    height = λ w. height_more w (g.height w);
    answer = λ w. answer_more w (g.answer w);
  }

module _ (pool : List Message) (y : ℕ) (r s t : Router) (first : GoesOn pool y r s) (second : GoesOn pool y s t)
    (w : ℕ) where
  start_twice : TakesStart pool y r s w → TakesStart pool y s t w → TakesStart pool y r t w
  start_twice (l, a) (k, inr b) = (omega (arith, l, k), inr b)
  start_twice (l, inl a) (k, inl b) = (omega (arith, l, k), inl (b ∙ a))
  start_twice (l, inr (m, f, a)) (k, inl b) = (omega (arith, l, k), inr (m, f, b ∙ a))

  height_twice : TakesHeight pool y r s w → TakesHeight pool y s t w → TakesHeight pool y r t w
  height_twice (inl a) (inl b) = inl (b.0 ∙ a.0, b.1 ∙ a.1, b.2 ∙ a.2)
  height_twice (inr (inl a)) (inl b) = inr (inl (omega (arith, a.0, b.0), b.1 ∙ a.1))
  height_twice (inr (inr (m, f, e, p, n, v, up))) (inl b) = inr (inr
      (m, f, e, b.0 ∙ p, b.1 ∙ n, b.2 ∙ v, λ e. up (omega (arith, e, b.0))))
  height_twice a (inr (inl b)) = inr (inl (omega (arith, (first.start w).0, b.0), b.1))
  height_twice a (inr (inr (m, f, e, p, n, v, up))) = inr (inr
      (m, f, omega (arith, e, first.boot), p, n, v, λ e. later a e))
    where
      later : TakesHeight pool y r s w → t.peer w ≡ r.peer w → r.heard w ≤ m.number
      later (inl a) e = omega (arith, a.1, up (omega (arith, e, a.0)))
      later (inr (inl a)) e = absurd (omega (arith, a.0, e, (second.start w).0))
      later (inr (inr (k, g, d, q, i, u, more))) e =
          let same : s.peer w ≡ r.peer w = omega (arith, e, (first.start w).0, (second.start w).0) in
          omega (arith, more same, i, up (omega (arith, e, same)))

  answer_twice : TakesAnswer pool y r s w → TakesAnswer pool y s t w → TakesAnswer pool y r t w
  answer_twice a (inr (inl b)) = inr (inl b)
  answer_twice a (inr (inr (m, f, e, p, v))) = inr (inr (m, f, omega (arith, e, first.boot), p, v))
  answer_twice (inl a) (inl b) = inl (b.0 ∙ a.0, b.1 ∙ a.1)
  answer_twice (inr (inl a)) (inl b) = inr (inl (b.1 ∙ a))
  answer_twice (inr (inr (m, f, e, p, v))) (inl b) = inr (inr (m, f, e, b.0 ∙ p, b.1 ∙ v))

pub goes_on_twice : (pool : List Message) (y : ℕ) (r s t : Router) → GoesOn pool y r s → GoesOn pool y s t
    → GoesOn pool y r t
goes_on_twice pool y r s t first second = record {
  boot = second.boot ∙ first.boot;
  number = omega (arith, first.number, second.number);
  announced = λ n l. second.announced n (omega (arith, l, first.number)) ∙ first.announced n l;
  start = λ w. start_twice pool y r s t first second w (first.start w) (second.start w);
  height = λ w. height_twice pool y r s t first second w (first.height w) (second.height w);
  answer = λ w. answer_twice pool y r s t first second w (first.answer w) (second.answer w);
}
