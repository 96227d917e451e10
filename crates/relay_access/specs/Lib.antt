pub mod RoomName
