-- The output of the play of a drawn schedule, defined by docs/PLAYS.md. This project's own.
use Rattle.std.specs.Prelude.{◌≡◌, ℕ, ◌<◌, ◌⊎◌, ◌==◌, ◌&&◌, ◌||◌, not, Bool, List, [], ◌∷◌, ◌++◌, length, take, map}
use Rattle.std.specs.Prelude.{filter, find, replicate, codes, decimal, Option, Some, None, option_map, Result, Ok, Err}
use Rattle.std.specs.List.{list_any, repeat, range_with_len, flat_map}
use Rattle.std.specs.Io.KnownBytes.{Appends}
use Rattle.fr_graph.specs.Counts.{links_at}
use Rattle.fr_graph.specs.Faults.{IsFaultless}
use Rattle.fr_graph.specs.Order.{in_order}
use Rattle.fr_requests.specs.Requests.{PlainRequest, new_network, reading}
use Rattle.fr_requests.specs.declared.requests.LineFault.{LineFault}
use Rattle.fr_requests.specs.declared.requests.LineFault.TheVariants.{NotJson, NotRequest, Memory}
use Rattle.fr_core.specs.Played.{IsPlay}
use Rattle.fr_core.specs.Runs.{IsRunTo}
use Rattle.fr_core.specs.declared.entry.Entry.{Entry}
use Rattle.fr_core.specs.declared.entry.Reply.{Reply}
use Rattle.fr_core.specs.declared.entry.Reply.TheVariants.{Turned, Held, Moved, Cut, Sink}
use Rattle.fr_core.specs.declared.targets.Target.{Target}
use Rattle.fr_core.specs.declared.targets.Target.TheVariants.{Turn}
use Rattle.fr_route.specs.Answers.{IsRefused}
use Rattle.fr_cli.specs.Draws.{drawn}
use Rattle.fr_route.specs.Blank.{is_blank}
use Rattle.fr_bytes.specs.Lines.{lines_of}
use Rattle.fr_bytes.specs.Bytes.{IsBeginning}
use Rattle.fr_route.specs.Texts.{counts_text, links_text, refusal_text}
use Rattle.fr_cli.specs.declared.draws.Draw.{Draw}

-- whether x is an end of a link
abbrev pub is_linked : List (ℕ × ℕ) → ℕ → Bool
is_linked links x = list_any (λ (l : ℕ × ℕ). (l.0 == x) || (l.1 == x)) links

-- the nodes with links, except the destination, in ascending order
abbrev pub turnable_nodes : ℕ → ℕ → List (ℕ × ℕ) → List ℕ
turnable_nodes n d links = filter (λ x. not (x == d) && is_linked links x) (range_with_len 0 n)

-- the targets of a worker: turns of these nodes, again and again, as many as there are steps
abbrev pub targets_for : ℕ → ℕ → List (ℕ × ℕ) → ℕ → List Target
targets_for n d links steps = map Turn (take steps (repeat steps (turnable_nodes n d links)))

-- the reply to a call
abbrev pub reply_text : Reply → List ℕ
reply_text (Turned count) = codes "turned " ++ decimal count
reply_text (Held by) = codes "held " ++ decimal by
reply_text (Moved had count) = codes "moved " ++ (decimal had ++ (codes " " ++ decimal count))
reply_text Cut = codes "cut"
reply_text Sink = codes "sink"

-- the worker, the node, and the reply to the call
abbrev pub entry_text : Entry → List ℕ
entry_text e = decimal e.worker ++ (codes " " ++ (decimal e.node ++ (codes " " ++ reply_text e.reply)))

-- this text and a newline, byte 10
abbrev pub line_of : List ℕ → List ℕ
line_of text = text ++ 10 ∷ []

-- the entries, one on each line
abbrev pub entries_text : List Entry → List ℕ
entries_text entries = flat_map (λ (e : Entry). line_of (entry_text e)) entries

-- the entries, and then the links that the counts give and the counts
abbrev pub end_text : List (ℕ × ℕ) → List Entry → List ℕ → List ℕ
end_text first entries counts =
    entries_text entries ++ (line_of (links_text (in_order (links_at first counts))) ++ line_of (counts_text counts))

-- the text that a play prints on a network with these first links, and how many entries it has
pub record IsPlayText (draw : Draw) (n d : ℕ) (first : List (ℕ × ℕ)) (out : List ℕ) (count : ℕ) : Type 0 where
  pub entries : List Entry
  pub counts : List ℕ
  -- the entries are those of the drawn schedule, for workers with equal targets
  pub play : IsPlay n d first (replicate draw.workers (targets_for n d first draw.steps))
      (drawn draw.seed draw.steps draw.workers) entries
  -- they lead to these counts
  pub run : IsRunTo n d first entries counts
  -- exactly this is printed
  pub text : out ≡ end_text first entries counts
  pub number : count ≡ length entries

-- exactly the refusal with this number is printed
abbrev pub IsRefusal : ℕ → List ℕ → ℕ → Type 0
IsRefusal number out count = (out ≡ line_of (refusal_text number)) × (count ≡ 0)

-- a network that is accepted and played
pub record IsAcceptedPlay (draw : Draw) (n d : ℕ) (links : List (ℕ × ℕ)) (out : List ℕ) (count : ℕ) : Type 0 where
  pub faultless : IsFaultless n links
  pub destination : d < n
  pub play : IsPlayText draw n d (in_order links) out count

-- The play of a request. A network that is refused in a run is refused here too, with the same number. Every other
-- request is refused with 3, since there is no network.
abbrev pub IsPlayOf : Draw → PlainRequest → List ℕ → ℕ → Type 0
IsPlayOf draw (new_network n d links) out count =
    ((number : ℕ) × IsRefused None (new_network n d links) number × IsRefusal number out count)
    ⊎ IsAcceptedPlay draw n d links out count
IsPlayOf draw request out count = IsRefusal 3 out count

-- the play of a line that was read with this result, if there is a line
abbrev pub IsPlayOfReading : Draw → Option (Result PlainRequest LineFault) → List ℕ → ℕ → Type 0
IsPlayOfReading draw (Some (Ok request)) out count = IsPlayOf draw request out count
IsPlayOfReading draw (Some (Err NotJson)) out count = IsRefusal 1 out count
IsPlayOfReading draw (Some (Err NotRequest)) out count = IsRefusal 2 out count
IsPlayOfReading draw (Some (Err Memory)) out count = ⊥
IsPlayOfReading draw None out count = IsRefusal 3 out count

-- the first line that is not blank
abbrev pub first_asking : List ℕ → Option (List ℕ)
first_asking bytes = find (λ line. not (is_blank line)) (lines_of bytes)

-- the text that the play of an input prints, and how many entries it has
abbrev pub IsPlayOutput : Draw → List ℕ → List ℕ → ℕ → Type 0
IsPlayOutput draw bytes out count = IsPlayOfReading draw (option_map reading (first_asking bytes)) out count

-- exactly the text of the play of these bytes was written, which is their only one; `count` is the number of its
-- entries
pub record WritesPlay (draw : Draw) (bytes : List ℕ) (old new : Option (List ℕ)) (count : ℕ) : Type 0 where
  pub out : List ℕ
  pub output : IsPlayOutput draw bytes out count
  pub only : (other : List ℕ) (number : ℕ) → IsPlayOutput draw bytes other number → (other ≡ out) × (number ≡ count)
  pub writes : Appends old new out

-- a prefix of the only text of the play of these bytes was written
pub record WritesPlayBeginning (draw : Draw) (bytes : List ℕ) (old new : Option (List ℕ)) : Type 0 where
  pub whole : List ℕ
  pub count : ℕ
  pub out : List ℕ
  pub output : IsPlayOutput draw bytes whole count
  pub only : (other : List ℕ) (number : ℕ) → IsPlayOutput draw bytes other number → (other ≡ whole) × (number ≡ count)
  pub begins : IsBeginning out whole
  pub writes : Appends old new out
