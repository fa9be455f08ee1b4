-- Which processes serve guests, and which of these share a directory.
use Rattle.std.specs.Prelude.{◌==◌, ◌&&◌, ◌++◌, List, [], ◌∷◌, Bool, not, map, filter, bytes_eq, if◌then◌else◌}
use Rattle.std.specs.Global.{Global}
use Rattle.std.specs.List.{list_any}
use Rattle.std.specs.declared.vec.Vec.{Vec}
use Rattle.virtiofs_mapaudit.specs.declared.running.Running.{Running}

-- the process is a child of the other, with the same command line
abbrev pub is_child : Running → Running → Bool
is_child it parent = it.parent == parent.pid && bytes_eq it.cmdline.now parent.cmdline.now

-- the process has such a child
abbrev pub has_child : List Running → Running → Bool
has_child all it = list_any (λ other. is_child other it) all

-- the processes that serve guests: those without such a child
abbrev pub serving : List Running → List Running
serving all = filter (λ it. not (has_child all it)) all

-- both share one directory
abbrev pub is_beside : Running → Running → Bool
is_beside it other = bytes_eq it.directory.now other.directory.now

-- those that share the directory of one
abbrev pub group : List Running → Running → List Running
group all it = filter (λ other. is_beside other it) all

-- one of them shares that directory
abbrev pub has_beside : List Running → Running → Bool
has_beside all it = list_any (λ other. is_beside other it) all

-- of each directory the process that is the first
abbrev pub firsts : List Running → List Running → List Running
firsts before [] = []
firsts before (it ∷ more) = (if has_beside before it then [] else it ∷ []) ++ firsts (before ++ it ∷ []) more

-- the processes of each directory, in the order of the first of each; so each process is in one group
abbrev pub groups_of : List Running → List (List Running)
groups_of all = map (group all) (firsts [] all)

abbrev pub items : Vec Running Global → List Running
items group = group.items
