-- The program of made jobs.
use Rattle.std.specs.Prelude.{ℕ, List, [], ◌∷◌, ◌++◌, codes}
use Rattle.std.specs.List.{flat_map}

-- its lines
abbrev pub program_lines : List (List ℕ)
program_lines =
    codes "element Point"
    ∷ codes "  x : int(0);"
    ∷ codes "  f : int(0);"
    ∷ codes "end"
    ∷ codes "element Spring"
    ∷ codes "  k : int(0);"
    ∷ codes "end"
    ∷ codes "extern points : set{Point};"
    ∷ codes "extern springs : set{Spring}(points, points);"
    ∷ codes "func stiff(s : Spring, p : (Point*2)) -> (K : matrix[points,points](int(0)))"
    ∷ codes "  K(p(0),p(0)) = s.k;"
    ∷ codes "  K(p(0),p(1)) = -s.k;"
    ∷ codes "  K(p(1),p(0)) = -s.k;"
    ∷ codes "  K(p(1),p(1)) = s.k;"
    ∷ codes "end"
    ∷ codes "proc main"
    ∷ codes "  var K = map stiff to springs reduce +;"
    ∷ codes "  points.f = -(K*points.x);"
    ∷ codes "end"
    ∷ []

-- its text: each line ends with a line feed
abbrev pub program : List ℕ
program = flat_map (λ line. line ++ codes "\n") program_lines
