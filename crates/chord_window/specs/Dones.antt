-- What a part leaves, in Chord's terms and in the kernel's.
use Rattle.std.specs.Prelude.{◌≡◌, List, [], ◌∷◌, map, ⊤}
use Rattle.chord_event.specs.declared.block.Block.{Block}
use Rattle.chord_event.specs.declared.body.Body.{Body}
use Rattle.chord_node.specs.declared.state.NodeState.{NodeState}
use Rattle.chord_trace.specs.declared.piece.Piece.{Piece}
use Rattle.chord_trace.specs.declared.piece.Piece.TheVariants as piece
use Rattle.chord_window.specs.declared.part_done.Done.{Done}
use Rattle.des_parts.specs.declared.copies.Touched.{Touched}
use Rattle.des_parts.specs.declared.entries.Entry.{Entry}
use Rattle.des_parts.specs.declared.part_run.Done.{Done as KernelDone}

-- what the kernel's parts leave of a ring
abbrev pub RingDone : Type 0
RingDone = KernelDone NodeState Body Piece

-- a state with its node
abbrev pub touched_of : NodeState → Touched NodeState
touched_of s = record { node = s.me; state = s }

-- a state that a part touched is that of its node
abbrev pub IsOwn : Touched NodeState → Type 0
IsOwn t = t ≡ touched_of t.state

-- a block as the kernel keeps it, with its key and its target
abbrev pub entry_of : Block → Entry Piece
entry_of block = record { key = block.key; target = block.target; piece = piece.OfEvent block }

-- the entry is that of a block
abbrev pub IsOfBlock : Entry Piece → Type 0
IsOfBlock entry = (block : Block) × (entry ≡ entry_of block)

-- what a part leaves, in the terms of Chord and in those of the kernel, is equal
pub record IsSame (done : Done) (kernel : RingDone) : Type 0 where
  pub part : kernel.part ≡ done.part
  pub nodes : kernel.nodes.items ≡ map touched_of done.nodes.items
  pub mail : kernel.mail.items ≡ done.mail.items
  pub entries : kernel.entries.items ≡ map entry_of done.blocks.items
  pub events : kernel.events ≡ done.events

-- what each part leaves, in the terms of Chord and in those of the kernel, is equal
abbrev pub AreSame : List Done → List RingDone → Type 0
AreSame [] [] = ⊤
AreSame [] (kernel ∷ kernels) = ⊥
AreSame (done ∷ dones) [] = ⊥
AreSame (done ∷ dones) (kernel ∷ kernels) = IsSame done kernel × AreSame dones kernels
