pub mod OwnScripts
