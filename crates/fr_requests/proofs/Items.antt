-- The items of an array, as values and as data.
use Rattle.std.proofs.Common.{append_assoc, sym, ◌+◌, List, None, Option, Some, option_and_then, [], ap, arith, drop}
use Rattle.std.proofs.Common.{get_or, length, map, option_map}
use Rattle.std.proofs.Common.{refl, suc, take, take_all, zero, ℕ, ◌++◌, ◌-◌, ◌<◌, ◌∙◌, ◌∷◌, ◌≡◌, ◌≤◌}
use Rattle.std.proofs.Math.Seq.{drop-nil}
use Rattle.std.proofs.lemmas.List.{append-nil}
use Rattle.serde_json.specs.Data.{Data}
use Rattle.serde_json.specs.Find.{as_str}
use Rattle.serde_json.specs.View.{items_of}
use Rattle.json.proofs.Trees.{view-Array}
use Rattle.json.specs.Value.{items_view, value_view}
use Rattle.json.specs.declared.value.Value.TheVariants.{Array}
use Rattle.std.specs.declared.alloc.Global.{Global}
use Rattle.std.specs.declared.vec.Vec.{Vec}
use Rattle.fr_requests.specs.Values.{Value, data_of, data_of_items, view}
use Rattle.fr_requests.specs.Returned.{IsReadNext}
use Rattle.fr_requests.specs.Requests.{item_list, items_in, read_all, read_by_word}

pub list_again : (ds : List Data) → item_list (items_of ds) ≡ ds
list_again [] = refl
list_again (d ∷ ds) = ap (λ rest. d ∷ rest) (list_again ds)

items_listed : (vs : List Value) → item_list (data_of_items (items_view vs)) ≡ map view vs
items_listed [] = refl
items_listed (v ∷ vs) = ap (λ rest. view v ∷ rest) (items_listed vs)

-- the items of an array are the views of its values
pub items_viewed : (value : Value) (vs : Vec Value Global) → value ≡ Array vs
    → Some (map view vs.items) ≡ items_in (view value)
items_viewed value vs is =
    sym (ap (λ j. items_in (data_of j)) (ap value_view is ∙ view-Array vs) ∙ ap Some (items_listed vs.items))

-- if no item is read yet, all are ahead
pub reading_begins : {X : Type 0} (one : Data → Option X) (vs : List Value) (read : List X) → read ≡ []
    → read_all one (map view vs) ≡ option_map (λ more. read ++ more) (read_all one (map view (drop 0 vs)))
reading_begins {X} one vs read e = rw e (go (read_all one (map view vs)))
  where
    go : (o : Option (List X)) → o ≡ option_map (λ more. [] ++ more) o
    go None = refl
    go (Some more) = refl

-- an item that is read is appended to those before it
pub reading_goes_on : {X : Type 0} (one : Data → Option X) (vs : List Value) (i : ℕ) (v : Value) (read after : List X)
    → i < length vs → IsReadNext one read (view (get_or vs i v)) after
    → option_map (λ more. read ++ more) (read_all one (map view (drop i vs)))
    ≡ option_map (λ more. after ++ more) (read_all one (map view (drop (i + 1) vs)))
reading_goes_on one [] i v read after h next = absurd (omega arith)
reading_goes_on {X} one (w ∷ vs) zero v read after h next = rw (next.1, next.2) (go next.0 (read_all one (map view vs)))
  where
    go : (x : X) (o : Option (List X))
        → option_map (λ more. read ++ more) (option_map (λ more. x ∷ more) o)
        ≡ option_map (λ more. (read ++ x ∷ []) ++ more) o
    go x None = refl
    go x (Some more) = ap Some (sym (append_assoc read (x ∷ []) more))
reading_goes_on one (w ∷ vs) (suc i) v read after h next =
    let further : suc i + 1 ≡ suc (i + 1) = omega arith in
    rw further (reading_goes_on one vs i v read after (omega arith) next)

-- an item that cannot be read ends the reading
pub reading_stops : {X : Type 0} (one : Data → Option X) (vs : List Value) (i : ℕ) (v : Value) → i < length vs
    → one (view (get_or vs i v)) ≡ None → read_all one (map view (drop i vs)) ≡ None
reading_stops one [] i v h e = absurd (omega arith)
reading_stops one (x ∷ xs) zero v h e = rw e
reading_stops one (x ∷ xs) (suc i) v h e = reading_stops one xs i v (omega arith) e

-- after the last item, what was read so far is everything
pub reading_ends : {X : Type 0} (one : Data → Option X) (vs : List Value) (i : ℕ) (read : List X) → length vs ≤ i
    → option_map (λ more. read ++ more) (read_all one (map view (drop i vs))) ≡ Some read
reading_ends one [] i read h = rw drop-nil (ap Some (append-nil read))
reading_ends one (x ∷ xs) zero read h = absurd (omega arith)
reading_ends one (x ∷ xs) (suc i) read h = reading_ends one xs i read (omega arith)

-- the word and the items after it determine the meaning of an array
pub word_settles : {X : Type 0} (by_word : List ℕ → List Data → Option X) (d : Data) (vs : List Value) (first : Value)
    (word : List ℕ) → items_in d ≡ Some (map view vs) → 1 ≤ length vs → first ≡ get_or vs 0 first
    → as_str (view first) ≡ Some word
    → option_and_then (read_by_word by_word) (items_in d) ≡ by_word word (map view (take (length vs - 1) (drop 1 vs)))
word_settles by_word d [] first word array some is says = absurd (omega arith)
word_settles by_word d (x ∷ xs) first word array some is says =
    let whole : take (length (x ∷ xs) - 1) xs ≡ xs = take_all (length (x ∷ xs) - 1) xs (omega arith) in
    rw (whole, array, ← is, says)
