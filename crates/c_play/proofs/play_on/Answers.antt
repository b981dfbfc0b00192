use borrow.Author.Rules.{elem_Fits}
use mathlib.Core.Path.{◌∙◌}
use Prim.Native.Nat.{ℕ}
use mir.Syntax.{w8, w64}
use Rattle.c_player.specs.Player.{PlayerFits}
use Rattle.c_play.proofs.PlayerLaws.{piece_stored}
use Rattle.c_play.proofs.play_on.Goals as goal

pub pack_piece-requires : goal.pack_piece-requires
pack_piece-requires c = c.play_from-m.ensures.1

-- the player that comes back has the ranges of its types
player_fits : (c : goal.After-pack_piece) → PlayerFits c.play_from-m.result.player
player_fits c =
    let went = c.play_from-m in
    let at = c.play_from-m.result.player.cursor.log in
    let player = c.play_from-m.type_inv.1.1.1.1.0.1.1 in
    let whole = c.play_from-m.type_inv.1.1.1.1.0.1.1.1.1.1.1.1.0.1.1 in
    let cursor = c.play_from-m.type_inv.1.1.1.1.0.1.1.1.1.1.1.1.0.1.1.0.1.1 in
    let starts = c.play_from-m.type_inv.1.1.1.1.0.1.1.1.1.1.1.1.0.1.1.0.1.1.1.1.0 in
    let left = c.play_from-m.type_inv.1.1.1.1.0.1.1.1.1.1.1.1.0.1.1.0.1.1.1.1.1.0 in
    record {
      phase = player.0.1;
      wait = player.1.0.1;
      time = player.1.1.0.1;
      last = player.1.1.1.0.1;
      cursor =
          record {
            log =
                record {
                  at = cursor.0.1;
                  depth = cursor.1.0.1;
                  starts = (starts.1.0.1, λ i. (elem_Fits w64 w64 at.starts starts.0 i starts.1.1 tt).fits);
                  left = (left.1.0.1, λ i. (elem_Fits w8 w8 at.left left.0 i left.1.1 tt).fits);
                };
            samples = whole.1.0.1;
            clock = whole.1.1.0.1;
          };
    }

pub returns : goal.returns
returns c =
    let went = c.play_from-m in
    record {
      played = went.result;
      does = went.ensures.0;
      says = c.pack_piece.ensures;
      small = went.type_inv.1.1.0.1;
      keeps = c.store_player.ensures ∙ piece_stored _ _ _ _ _ went.result went.ensures.0;
      fits = player_fits c;
    }
