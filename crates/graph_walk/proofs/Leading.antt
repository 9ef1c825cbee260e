-- What nodes reach: one after another, back along edges turned around, and past walls.
use Rattle.std.proofs.Common.{◌≡◌, ℕ, ◌<◌, Bool, false, List, get_or}
use Rattle.std.specs.List.{Contains}
use Rattle.graph_walk.specs.Graph.{Leads, start, along, LeadsPast, start_past, along_past, AreMutual}

pub reached_then : (out : ℕ → List ℕ) (a b c : ℕ) → Leads out a b → Leads out b c → Leads out a c
reached_then out a b _ p start = p
reached_then out a b _ p (along x y q h) = along x y (reached_then out a b x p q) h

-- what is reached along edges reaches back along the edges turned around
pub turned_leads : (f g : ℕ → List ℕ) → ((a b : ℕ) → Contains (f a) b → Contains (g b) a) → (k m : ℕ) → Leads f k m → Leads g m k
turned_leads f g turn k _ start = start
turned_leads f g turn k _ (along a b r h) = reached_then g b a k (along b a start (turn a b h)) (turned_leads f g turn k a r)

pub leads_inside : (out : ℕ → List ℕ) (n : ℕ) → ((x y : ℕ) → Contains (out x) y → y < n) → (a b : ℕ) → a < n → Leads out a b → b < n
leads_inside out n ends a _ p start = p
leads_inside out n ends a _ p (along x y r h) = ends x y h

pub mutual_then : (out : ℕ → List ℕ) (a b c : ℕ) → AreMutual out a b → AreMutual out b c → AreMutual out a c
mutual_then out a b c p q = (reached_then out a b c p.0 q.0, reached_then out c b a q.1 p.1)

pub mutual_back : (out : ℕ → List ℕ) (a b : ℕ) → AreMutual out a b → AreMutual out b a
mutual_back out a b p = (p.1, p.0)

-- what is reached past walls is reached, and is no wall
pub past_leads : (out : ℕ → List ℕ) (walls : List Bool) (root a : ℕ) → LeadsPast out walls root a → Leads out root a
past_leads out walls root _ (start_past off) = start
past_leads out walls root _ (along_past a b r h off) = along a b (past_leads out walls root a r) h

pub past_open : (out : ℕ → List ℕ) (walls : List Bool) (root a : ℕ) → LeadsPast out walls root a → get_or walls a false ≡ false
past_open out walls root _ (start_past off) = off
past_open out walls root _ (along_past a b r h off) = off

-- where there are no walls, all that is reached is reached past them
pub leads_past : (out : ℕ → List ℕ) (walls : List Bool) (root a : ℕ) → ((b : ℕ) → get_or walls b false ≡ false) → Leads out root a → LeadsPast out walls root a
leads_past out walls root _ none start = start_past (none root)
leads_past out walls root _ none (along a b r h) = along_past a b (leads_past out walls root a none r) h (none b)
