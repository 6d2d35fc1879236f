-- What a router has not heard of a neighbour.
use Rattle.std.proofs.Common.{Contains, List, [], ap, arith, cond, eq-eqb, false, ne_eqb, refl, sym, true, ℕ, ⊎_elim}
use Rattle.std.proofs.Common.{◌∷◌, ◌+◌, ◌-◌, ◌<◌, ◌==◌, ◌≡◌, ◌≤◌, ◌⊎◌, Bool, inl, inr}
use Rattle.std.specs.List.{count_by}
use Rattle.std.proofs.lemmas.Bool.{cases_Bool, cases_eq, cases_lt}
use Rattle.std.proofs.lemmas.Bool.Decides.{nat_tests}
use Rattle.fr_node.specs.declared.message.Message.{Message}
use Rattle.fr_node.specs.Paths.{UnheardAreAnnouncements, is_earlier_news, unheard_of}
use Rattle.fr_node.specs.Routers.{Router}
use Rattle.fr_node.proofs.Counting.{count_cons, count_less, count_most, one_facts}

-- the router t has heard no less of w than r: no earlier start, and no earlier announcement of the same start
pub record HearsOn (w : ℕ) (r t : Router) : Type 0 where
  pub peer : r.peer w ≤ t.peer w
  pub heard : t.peer w ≡ r.peer w → r.heard w ≤ t.heard w

wider_news : (start x w : ℕ) (r t : Router) → HearsOn w r t → (m : Message) → is_earlier_news start x w t m ≡ true
    → is_earlier_news start x w r m ≡ true
wider_news start x w r t on m h = grind (arith, nat_tests, on.peer, on.heard)

unfoldable pub present : ℕ → ℕ → ℕ → ℕ → ℕ
present start number peer heard = cond (peer == start) (number - heard) number

present_now : (start number peer heard : ℕ) → peer ≡ start → present start number peer heard ≡ number - heard
unfolding present
present_now start number peer heard e = rw (eq-eqb peer start e) refl

present_before : (start number peer heard : ℕ) → peer < start → present start number peer heard ≡ number
unfolding present
present_before start number peer heard l = rw (ne_eqb peer start (λ e. omega (arith, e, l))) refl

pub same_or_less : (a b : ℕ) → a ≤ b → (a ≡ b) ⊎ (a < b)
same_or_less a b l = ⊎_elim (λ less. inr less) (λ most. inl (omega (arith, l, most))) (cases_lt a b)

-- c counts some of the announcements up to each number
pub record IsCount (c : ℕ → ℕ) : Type 0 where
  pub none : c 0 ≡ 0
  pub grows : (a b : ℕ) → a ≤ b → c a ≤ c b
  pub slow : (a b : ℕ) → a ≤ b → c b ≤ c a + (b - a)

-- of what has not been heard those that are counted, and messages of earlier starts
unfoldable pub unheard_by : (c : ℕ → ℕ) (start number : ℕ) (pool : List Message) (x w : ℕ) → Router → ℕ
unfolding present
unheard_by c start number pool x w r = count_by (is_earlier_news start x w r) pool
    + present start (c number) (r.peer w) (c (r.heard w))

module _ (c : ℕ → ℕ) (count : IsCount c) (start number : ℕ) (pool : List Message) (x w : ℕ) (r t : Router)
    (on : HearsOn w r t) (known : t.peer w ≤ start) (most : t.peer w ≡ start → t.heard w ≤ number) where
  news_most : count_by (is_earlier_news start x w t) pool ≤ count_by (is_earlier_news start x w r) pool
  news_most = count_most (is_earlier_news start x w t) (is_earlier_news start x w r) (wider_news start x w r t on) pool

  present_most : present start (c number) (t.peer w) (c (t.heard w))
      ≤ present start (c number) (r.peer w) (c (r.heard w))
  present_most = ⊎_elim
      (λ now. ⊎_elim
      (λ was. omega (
        arith,
        present_now start (c number) (t.peer w) (c (t.heard w)) now,
        present_now start (c number) (r.peer w) (c (r.heard w)) was,
        count.grows (r.heard w) (t.heard w) (on.heard (omega (arith, now, was))),
      ))
      (λ less. omega (
        arith,
        present_now start (c number) (t.peer w) (c (t.heard w)) now,
        present_before start (c number) (r.peer w) (c (r.heard w)) less,
      ))
      (same_or_less (r.peer w) start (omega (arith, on.peer, known))))
      (λ less. omega (
        arith,
        present_before start (c number) (t.peer w) (c (t.heard w)) less,
        present_before start (c number) (r.peer w) (c (r.heard w)) (omega (arith, on.peer, less)),
      ))
      (same_or_less (t.peer w) start known)

  pub by_most : unheard_by c start number pool x w t ≤ unheard_by c start number pool x w r
  unfolding unheard_by
  by_most = omega (arith, news_most, present_most)

  -- if it has heard something new that counts
  module _ (m : Message) (from : m.from ≡ w) (to : m.to ≡ x) (boot : t.peer w ≡ m.boot)
      (heard : t.heard w ≡ m.number) (some : 0 < m.number)
      (new : t.peer w ≡ r.peer w → r.heard w < m.number) (listed : m.boot < start → Contains pool m)
      (counts : t.peer w ≡ start → (a : ℕ) → a < m.number → c a < c m.number) where
    is_news : m.boot < start → is_earlier_news start x w r m ≡ true
    is_news less = ⊎_elim
        (λ e. let l = new (sym e) in grind (arith, nat_tests, from, to, less, boot, e, l))
        (λ l. grind (arith, nat_tests, from, to, less, boot, l))
        (same_or_less (r.peer w) (t.peer w) on.peer)

    no_news : is_earlier_news start x w t m ≡ false
    no_news = ⊎_elim (λ y. absurd (not_itself y)) (λ f. f) (cases_Bool (is_earlier_news start x w t m))
      where
        not_itself : is_earlier_news start x w t m ≡ true → ⊥
        not_itself y = grind (arith, nat_tests, boot, heard)

    pub by_less : unheard_by c start number pool x w t + 1 ≤ unheard_by c start number pool x w r
    unfolding unheard_by
    by_less = ⊎_elim
        (λ now. omega (arith, news_most, less_now now))
        (λ less. omega (
          arith,
          present_most,
          count_less (is_earlier_news start x w t) (is_earlier_news start x w r)
              (wider_news start x w r t on) pool m (listed (omega (arith, less, boot))) no_news
              (is_news (omega (arith, less, boot))),
        ))
        (same_or_less (t.peer w) start known)
      where
        less_now : t.peer w ≡ start → present start (c number) (t.peer w) (c (t.heard w)) + 1
            ≤ present start (c number) (r.peer w) (c (r.heard w))
        less_now now = ⊎_elim
            (λ was. omega (
              arith,
              present_now start (c number) (t.peer w) (c (t.heard w)) now,
              present_now start (c number) (r.peer w) (c (r.heard w)) was,
              counts now (r.heard w) (new (omega (arith, now, was))),
              ap c heard,
              count.grows (t.heard w) number (most now),
            ))
            (λ less. omega (
              arith,
              present_now start (c number) (t.peer w) (c (t.heard w)) now,
              present_before start (c number) (r.peer w) (c (r.heard w)) less,
              ap c heard,
              counts now 0 some,
              count.grows (t.heard w) number (most now),
            ))
            (same_or_less (r.peer w) start (omega (arith, on.peer, known)))

-- more announcements of the present start
pub more_by : (c : ℕ → ℕ) → IsCount c → (start few many : ℕ) (pool : List Message) (x w : ℕ) (r : Router) → few ≤ many
    → (r.peer w ≡ start → r.heard w ≤ few)
    → unheard_by c start many pool x w r ≤ unheard_of start few pool x w r + (c many - c few)
unfolding unheard_by present
more_by c count start few many pool x w r more most = ⊎_elim
    (λ e. rw (eq-eqb (r.peer w) start e) (omega
    (arith, count.slow (r.heard w) few (most e), count.grows (r.heard w) few (most e), count.grows few many more)))
    (λ other. rw (ne_eqb (r.peer w) start other) (omega
    (arith, count.slow 0 few (omega arith), count.none, count.grows few many more)))
    (cases_eq (r.peer w) start)

-- all announcements
pub counts_all : IsCount (λ n. n)
counts_all = record { none = refl; grows = λ a b l. l; slow = λ a b l. omega (arith, l) }

-- no message is of a start that is earlier than the present one and later than it
no_earlier : (start x w : ℕ) (r : Router) → r.peer w ≡ start → (ms : List Message)
    → count_by (is_earlier_news start x w r) ms ≡ 0
no_earlier start x w r e [] = refl
no_earlier start x w r e (m ∷ ms) = omega (
  arith,
  count_cons (is_earlier_news start x w r) m ms,
  (one_facts (is_earlier_news start x w r m)).1 not_news,
  no_earlier start x w r e ms,
)
  where
    not_news : is_earlier_news start x w r m ≡ false
    not_news = ⊎_elim (λ y. absurd (never y)) (λ f. f) (cases_Bool (is_earlier_news start x w r m))
      where
        never : is_earlier_news start x w r m ≡ true → ⊥
        never y = grind (arith, nat_tests, e)

pub unheard_are_announcements : UnheardAreAnnouncements
unheard_are_announcements s x w e = omega (
  arith,
  no_earlier (s.router w).boot x w (s.router x) e s.pool,
  ap {B = ℕ} (λ (b : Bool). cond b ((s.router w).number - (s.router x).heard w) (s.router w).number)
      (eq-eqb ((s.router x).peer w) (s.router w).boot e),
)
